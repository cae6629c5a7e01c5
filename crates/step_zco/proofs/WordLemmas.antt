-- The control words of a world, where one account has others, and how they are set.
use Rattle.std.proofs.Common.{◌≡◌, ◌∙◌, ℕ, ◌+◌, ◌<◌, List, length, map, refl, ap, arith, set}
use Rattle.std.proofs.lemmas.List.{length-set}
use Rattle.sdr_stands.specs.Rows.{name_row}
use Rattle.sdr_stands.specs.Standing.{account_roots, roots_of}
use Rattle.sdr_base.proofs.RootsLemmas.{with_at-roots_by}
use Rattle.sdr_base.specs.Blocks.{with_at}
use Rattle.sdr_base.specs.Catalogue.{name_addr}
use Rattle.sdr_base.specs.Linked.{first_of, last_of}
use Rattle.sdr_base.specs.Roots.{account_words, root_words, roots_by}
use Rattle.sdr_base.specs.Tickets.{ticket_addr}
use Rattle.sdr_base.specs.declared.account.Acct.{Acct}
use Rattle.sdr_base.specs.declared.account.Acct.TheVariants as accts
use Rattle.sdr_base.specs.declared.account.Amounts.{Amounts}
use Rattle.sdr_base.specs.declared.control.TheConstants.{HEAP_VERSION}
use Rattle.sdr_base.specs.declared.kind.Space.{Space}
use Rattle.sdr_base.specs.declared.kind.Space.TheVariants as spaces
use Rattle.sdr_model.specs.AccountSteps.{with_amount}
use Rattle.sdr_model.specs.Accounts.{account_of, tickets_of}
use Rattle.sdr_model.specs.Charges.{occupancies}
use Rattle.sdr_model.specs.TicketRows.{ticket_row}
use Rattle.sdr_model.specs.World.{World}
use Rattle.zco_acct.specs.Words.{first_word, last_word, maximum_word, occupancy_word}

-- the words of an account: what is occupied, the maxima, the first ticket and the last
pub record AccountWords : Type 0 where
  pub occupied : Amounts
  pub maxima : Amounts
  pub first : ℕ
  pub last : ℕ

-- as they stand one behind another
abbrev words : AccountWords → List ℕ
words a = account_words a.occupied a.maxima a.first a.last

-- all words of a world, where an account has these, and the next ticket this number
abbrev pub roots_with : World → Acct → AccountWords → ℕ → ℕ → ℕ
roots_with w accts.Inbound a next =
    let names = map name_row w.names in
    roots_by
    (root_words HEAP_VERSION (first_of name_addr 0 names) (last_of name_addr 0 names) (words a)
    (account_roots w accts.Outbound) next)
roots_with w accts.Outbound a next =
    let names = map name_row w.names in
    roots_by
    (root_words HEAP_VERSION (first_of name_addr 0 names) (last_of name_addr 0 names) (account_roots w accts.Inbound)
    (words a) next)

-- those that a world has
abbrev pub words_of : World → Acct → AccountWords
words_of w acct = record {
  occupied = occupancies w acct;
  maxima = (account_of w.accounts acct).maxima;
  first = first_of ticket_addr 0 (map ticket_row (tickets_of w.accounts acct));
  last = last_of ticket_addr 0 (map ticket_row (tickets_of w.accounts acct));
}

pub roots_same : (w : World) (acct : Acct) → roots_of w ≡ roots_with w acct (words_of w acct) w.accounts.next
roots_same w accts.Inbound = refl
roots_same w accts.Outbound = refl

-- what is occupied is set
abbrev pub set_occupied : (ℕ → ℕ) → Acct → Amounts → ℕ → ℕ
set_occupied roots acct o =
    with_at (with_at (with_at roots (occupancy_word acct spaces.File) o.file) (occupancy_word acct spaces.Bulk) o.bulk)
    (occupancy_word acct spaces.Heap) o.heap

three_set : (ws : List ℕ) (i : ℕ) (o : Amounts) → i + 2 < length ws →
    with_at (with_at (with_at (roots_by ws) (89 + i) o.file) (89 + (i + 1)) o.bulk) (89 + (i + 2)) o.heap
    ≡ roots_by (set (set (set ws i o.file) (i + 1) o.bulk) (i + 2) o.heap)
three_set ws i o within =
    ap (λ (r : ℕ → ℕ). with_at (with_at r (89 + (i + 1)) o.bulk) (89 + (i + 2)) o.heap)
    (with_at-roots_by ws i o.file (omega (arith, within)))
    ∙ ap (λ (r : ℕ → ℕ). with_at r (89 + (i + 2)) o.heap)
    (with_at-roots_by (set ws i o.file) (i + 1) o.bulk (omega (arith, within, length-set ws i o.file)))
    ∙ with_at-roots_by (set (set ws i o.file) (i + 1) o.bulk) (i + 2) o.heap
    (omega (arith, within, length-set ws i o.file, length-set (set ws i o.file) (i + 1) o.bulk))

pub occupied_set : (w : World) (acct : Acct) (a : AccountWords) (next : ℕ) (o : Amounts) →
    set_occupied (roots_with w acct a next) acct o ≡ roots_with w acct (record a { occupied = o }) next
occupied_set w accts.Inbound a next o = three_set _ 3 o (omega arith)
occupied_set w accts.Outbound a next o = three_set _ 11 o (omega arith)

-- the ends of the queue are set
pub ends_set : (w : World) (acct : Acct) (a : AccountWords) (next first last : ℕ) →
    with_at (with_at (roots_with w acct a next) (first_word acct) first) (last_word acct) last
    ≡ roots_with w acct (record a { first = first; last = last }) next
ends_set w accts.Inbound a next first last =
    ap (λ (r : ℕ → ℕ). with_at r 99 last) (with_at-roots_by _ 9 first (omega arith))
    ∙ with_at-roots_by _ 10 last (omega arith)
ends_set w accts.Outbound a next first last =
    ap (λ (r : ℕ → ℕ). with_at r 107 last) (with_at-roots_by _ 17 first (omega arith))
    ∙ with_at-roots_by _ 18 last (omega arith)

-- the next number is set
pub next_set : (w : World) (acct : Acct) (a : AccountWords) (next more : ℕ) →
    with_at (roots_with w acct a next) 108 more ≡ roots_with w acct a more
next_set w accts.Inbound a next more = with_at-roots_by _ 19 more (omega arith)
next_set w accts.Outbound a next more = with_at-roots_by _ 19 more (omega arith)

-- a maximum is set
pub maximum_set : (w : World) (acct : Acct) (a : AccountWords) (next : ℕ) (space : Space) (value : ℕ) →
    with_at (roots_with w acct a next) (maximum_word acct space) value
    ≡ roots_with w acct (record a { maxima = with_amount a.maxima space value }) next
maximum_set w accts.Inbound a next spaces.File value = with_at-roots_by _ 6 value (omega arith)
maximum_set w accts.Inbound a next spaces.Bulk value = with_at-roots_by _ 7 value (omega arith)
maximum_set w accts.Inbound a next spaces.Heap value = with_at-roots_by _ 8 value (omega arith)
maximum_set w accts.Outbound a next spaces.File value = with_at-roots_by _ 14 value (omega arith)
maximum_set w accts.Outbound a next spaces.Bulk value = with_at-roots_by _ 15 value (omega arith)
maximum_set w accts.Outbound a next spaces.Heap value = with_at-roots_by _ 16 value (omega arith)
