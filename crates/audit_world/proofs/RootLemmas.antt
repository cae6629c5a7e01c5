-- The control words are those of the world that a heap tells.
use Rattle.std.proofs.Common.{◌≡◌, ◌≤◌, ◌<◌, ◌-◌, ◌*◌, ◌/◌, ◌==◌, ◌&&◌, ℕ, Bool, List, [], ◌∷◌, true, false, length, get_or, map, arith, ap, ◌∙◌, refl, sym, inl, inr, eqb-true}
use Rattle.std.specs.Prelude.{nat_le, nat_lt}
use Rattle.std.specs.List.{range_with_len}
use Rattle.std.proofs.lemmas.Bool.{cases_lt, cond-false, cond-true, le-ltb, lt-leb, lt-ltb}
use Rattle.std.proofs.lemmas.List.{get_or_past}
use Rattle.std.proofs.lemmas.List.FromFn.{get_or-map-range_with_len}
use Rattle.sdr_stands.specs.Rows.{name_row}
use Rattle.sdr_stands.specs.Standing.{account_roots, roots_of}
use Rattle.sdr_base.specs.Catalogue.{name_addr}
use Rattle.sdr_base.specs.KeptHeap.{root_in}
use Rattle.sdr_base.specs.Linked.{first_of, last_of}
use Rattle.sdr_base.specs.Roots.{root_words, roots_by}
use Rattle.sdr_base.specs.Stored.{number_at}
use Rattle.sdr_base.specs.Tickets.{ticket_addr}
use Rattle.sdr_base.specs.declared.account.Acct.TheVariants as accts
use Rattle.sdr_base.specs.declared.control.TheConstants.{HEAP_VERSION, VERSION}
use Rattle.sdr_base.specs.declared.kind.Space.TheVariants as spaces
use Rattle.audit_counts.specs.Counted.{IsCounted}
use Rattle.sdr_model.specs.Accounts.{tickets_of}
use Rattle.sdr_model.specs.TicketRows.{ticket_row}
use Rattle.audit_owners.specs.View.{view_in}
use Rattle.audit_world.proofs.OccupiedLemmas.{occupancy_told}
use Rattle.audit_world.proofs.OwnLemmas.{IsAudited}
use Rattle.audit_world.proofs.PartLemmas.{names_chain, names_rows, queue_chain, tickets_rows}
use Rattle.audit_world.specs.Told.{world_of}
use Rattle.audit_blocks.specs.Control.{ControlIsRight, may_be}

module _ (bytes : List ℕ) where
  -- a control word that belongs to what blocks keep
  pub root_is : (word : ℕ) → (nat_le 89 word && nat_lt word 128) ≡ true → root_in bytes word ≡ number_at (8 * word) bytes
  unfolding root_in
  root_is word is = cond-true (nat_le 89 word && nat_lt word 128) (number_at (8 * word) bytes) 0 is

  -- and any other
  other_is : (word : ℕ) → (nat_le 89 word && nat_lt word 128) ≡ false → root_in bytes word ≡ 0
  unfolding root_in
  other_is word off = cond-false (nat_le 89 word && nat_lt word 128) (number_at (8 * word) bytes) 0 off

  module _ (right : ControlIsRight bytes) (a : IsAudited (view_in bytes) (length bytes / 8)) (c : IsCounted (view_in bytes) (length bytes / 8)) where
    -- a control word that may have one value alone
    only_at : (word value : ℕ) → nat_le 89 word ≡ true → nat_lt word 128 ≡ true → ((v : ℕ) → may_be bytes word v ≡ (v == value)) → word < 128 → root_in bytes word ≡ value
    only_at word value low high only below =
        root_is word ((λ i. low i && high i))
        ∙ eqb-true (number_at (8 * word) bytes) value (sym (only (number_at (8 * word) bytes)) ∙ right word below)

    last_name : root_in bytes 90 ≡ last_of name_addr 0 (map name_row (world_of bytes).names)
    last_name =
        eqb-true (root_in bytes 90) (names_chain (view_in bytes) (length bytes / 8) a).last (names_chain (view_in bytes) (length bytes / 8) a).ends
        ∙ (names_rows (view_in bytes) (length bytes / 8) a).end

    last_inbound : root_in bytes 99 ≡ last_of ticket_addr 0 (map ticket_row (tickets_of (world_of bytes).accounts accts.Inbound))
    last_inbound =
        eqb-true (root_in bytes 99) (queue_chain (view_in bytes) (length bytes / 8) a accts.Inbound).last (queue_chain (view_in bytes) (length bytes / 8) a accts.Inbound).ends
        ∙ (tickets_rows (view_in bytes) (length bytes / 8) a accts.Inbound).end

    last_outbound : root_in bytes 107 ≡ last_of ticket_addr 0 (map ticket_row (tickets_of (world_of bytes).accounts accts.Outbound))
    last_outbound =
        eqb-true (root_in bytes 107) (queue_chain (view_in bytes) (length bytes / 8) a accts.Outbound).last (queue_chain (view_in bytes) (length bytes / 8) a accts.Outbound).ends
        ∙ (tickets_rows (view_in bytes) (length bytes / 8) a accts.Outbound).end

    abbrev words_told : List ℕ
    words_told =
        root_words HEAP_VERSION (first_of name_addr 0 (map name_row (world_of bytes).names)) (last_of name_addr 0 (map name_row (world_of bytes).names))
        (account_roots (world_of bytes) accts.Inbound) (account_roots (world_of bytes) accts.Outbound) (world_of bytes).accounts.next

    -- the control words of the world, in order
    listed : map (root_in bytes) (range_with_len 89 39) ≡ words_told
    listed = λ i.
        (names_rows (view_in bytes) (length bytes / 8) a).first i
        ∷ last_name i
        ∷ only_at VERSION HEAP_VERSION refl refl (λ v. refl) (omega arith) i
        ∷ occupancy_told (view_in bytes) (length bytes / 8) a c accts.Inbound spaces.File i
        ∷ occupancy_told (view_in bytes) (length bytes / 8) a c accts.Inbound spaces.Bulk i
        ∷ occupancy_told (view_in bytes) (length bytes / 8) a c accts.Inbound spaces.Heap i
        ∷ root_in bytes 95 ∷ root_in bytes 96 ∷ root_in bytes 97
        ∷ (tickets_rows (view_in bytes) (length bytes / 8) a accts.Inbound).first i
        ∷ last_inbound i
        ∷ occupancy_told (view_in bytes) (length bytes / 8) a c accts.Outbound spaces.File i
        ∷ occupancy_told (view_in bytes) (length bytes / 8) a c accts.Outbound spaces.Bulk i
        ∷ occupancy_told (view_in bytes) (length bytes / 8) a c accts.Outbound spaces.Heap i
        ∷ root_in bytes 103 ∷ root_in bytes 104 ∷ root_in bytes 105
        ∷ (tickets_rows (view_in bytes) (length bytes / 8) a accts.Outbound).first i
        ∷ last_outbound i
        ∷ root_in bytes 108
        ∷ only_at 109 0 refl refl (λ v. refl) (omega arith) i ∷ only_at 110 0 refl refl (λ v. refl) (omega arith) i ∷ only_at 111 0 refl refl (λ v. refl) (omega arith) i ∷ only_at 112 0 refl refl (λ v. refl) (omega arith) i ∷ only_at 113 0 refl refl (λ v. refl) (omega arith) i ∷ only_at 114 0 refl refl (λ v. refl) (omega arith) i ∷ only_at 115 0 refl refl (λ v. refl) (omega arith) i ∷ only_at 116 0 refl refl (λ v. refl) (omega arith) i ∷ only_at 117 0 refl refl (λ v. refl) (omega arith) i ∷ only_at 118 0 refl refl (λ v. refl) (omega arith) i ∷ only_at 119 0 refl refl (λ v. refl) (omega arith) i ∷ only_at 120 0 refl refl (λ v. refl) (omega arith) i ∷ only_at 121 0 refl refl (λ v. refl) (omega arith) i ∷ only_at 122 0 refl refl (λ v. refl) (omega arith) i ∷ only_at 123 0 refl refl (λ v. refl) (omega arith) i ∷ only_at 124 0 refl refl (λ v. refl) (omega arith) i ∷ only_at 125 0 refl refl (λ v. refl) (omega arith) i ∷ only_at 126 0 refl refl (λ v. refl) (omega arith) i ∷ only_at 127 0 refl refl (λ v. refl) (omega arith) i ∷ []

    root_same : (word : ℕ) → root_in bytes word ≡ roots_by words_told word
    unfolding roots_by
    root_same word = elim (cases_lt word 89) [
      | inl below ↦
          other_is word (ap (λ (t : Bool). t && nat_lt word 128) (low_false word below))
          ∙ sym (cond-true (nat_lt word 89) 0 (get_or words_told (word - 89) 0) (lt-ltb word 89 below))
      | inr from ↦ elim (cases_lt word 128) [
        | inl within ↦
            sym (get_or-map-range_with_len (root_in bytes) 89 39 (word - 89) word 0 (omega (arith, within)) (omega (arith, from)))
            ∙ ap (λ (l : List ℕ). get_or l (word - 89) 0) listed
            ∙ sym (cond-false (nat_lt word 89) 0 (get_or words_told (word - 89) 0) (le-ltb word 89 from))
        | inr past ↦
            other_is word (ap (λ (t : Bool). nat_le 89 word && t) (le-ltb word 128 past) ∙ none (nat_le 89 word))
            ∙ sym (get_or_past words_told (word - 89) 0 (beyond word past))
            ∙ sym (cond-false (nat_lt word 89) 0 (get_or words_told (word - 89) 0) (le-ltb word 89 from))
      ]
    ]
      where
        low_false : (word : ℕ) → word < 89 → nat_le 89 word ≡ false
        low_false word below = lt-leb 89 word below

        none : (t : Bool) → (t && false) ≡ false
        none true = refl
        none false = refl

        beyond : (word : ℕ) → 128 ≤ word → 39 ≤ word - 89
        beyond word past = omega (arith, past)

    -- the control words of the region are those of the world
    pub roots_same : root_in bytes ≡ roots_of (world_of bytes)
    roots_same = λ i word. root_same word i
