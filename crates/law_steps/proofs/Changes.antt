-- What an answered changing call does to the things and the names of a world, and so to its blocks.
use Rattle.std.proofs.Common.{◌≡◌, ◌≤◌, ◌⊎◌, inl, ℕ, ◌+◌, List, [], ◌∷◌, ◌++◌, Bool, true, false, cond, Option, Some, None, map, length, refl, sym, ap, ◌∙◌, subst, arith}
use Rattle.std.specs.BTreeMap.{is_at}
use Rattle.std.specs.FinMap.{entries, get}
use Rattle.std.specs.List.{sum_by}
use Rattle.std.specs.Ordering.{nat_cmp}
use Rattle.std.specs.Prelude.{All, IfSome}
use Rattle.std.proofs.lemmas.List.{append-nil}
use Rattle.std.proofs.lemmas.List.Sums.{sum_by-append}
use Rattle.sdr_model.proofs.SumLemmas.{counted_at, sum_by-flat_map, sum_by-inserted, sum_by-removed}
use Rattle.law_steps.specs.Fresh.{AreFresh}
use Rattle.law_steps.specs.Marks.{MarksTaken}
use Rattle.law_steps.specs.MovesBlocks.{MovesBlocks, taken_needs, given_addresses}
use Rattle.sdr_model.specs.Steps.{Outcome, taken_addresses}
use Rattle.sdr_model.proofs.ThingsLemmas.{get-with_at}
use Rattle.sdr_model.specs.Blocks.{thing_blocks, things_blocks, blocks_of, addresses_of}
use Rattle.sdr_base.specs.declared.moves.Move.{Move}
use Rattle.sdr_model.specs.Accounts.{ticket_blocks}
use Rattle.sdr_model.specs.Limits.{longest_name}
use Rattle.sdr_model.specs.Step.{is_answer}
use Rattle.sdr_model.specs.Things.{with_at, Things, block_for_name}
use Rattle.sdr_model.specs.Valid.{IsBetween, AreDistinct, FitTogether, IsValid, IsValidThing, names_of}
use Rattle.sdr_model.specs.World.{World, thing_at}
use Rattle.sdr_model.specs.declared.name.Name.{Name}
use Rattle.sdr_model.specs.declared.things.UsedBlock.{UsedBlock}
use Rattle.sdr_model.specs.declared.things.Thing.{Thing}

-- the things and the names of a world keep their limits
pub record KeepsLimits (w : World) : Type 0 where
  pub things : (addr : ℕ) → IfSome (thing_at w addr) IsValidThing
  pub names : All (λ name. IsBetween 1 longest_name (length name)) (names_of w)
  pub distinct_names : AreDistinct (names_of w)

-- as those of a valid world do
pub limits_of : (w : World) → IsValid w → KeepsLimits w
limits_of w valid = record { things = valid.things; names = valid.names; distinct_names = valid.distinct_names }

-- the blocks that the outcome took begin where none of the world's did
abbrev pub IsFresh : World → Outcome → Type 0
IsFresh w o = AreFresh (addresses_of (blocks_of w)) o.moves

-- the moves take no block, and the world after them has no more of any than the one before
pub record Fewer (w : World) (moves : List Move) (w' : World) : Type 0 where
  pub none : taken_addresses moves ≡ []
  pub sums : (measure : UsedBlock → ℕ) → sum_by measure (blocks_of w') ≤ sum_by measure (blocks_of w)

-- A changing call was answered: where the blocks that it took are fresh, it moves the blocks of the world, or leaves fewer
-- where sources and extents don't fit each other, and it keeps the limits.
pub record Changes (w : World) (o : Outcome) : Type 0 where
  pub answered : is_answer o.reply ≡ true
  pub marks : MarksTaken w o.moves o.after
  pub moved : IsValid w → FitTogether w → IsFresh w o → MovesBlocks w o.moves o.after
  pub kept : IsValid w → IsFresh w o → MovesBlocks w o.moves o.after ⊎ Fewer w o.moves o.after
  pub limits : KeepsLimits w → KeepsLimits o.after

-- a call that moves the blocks of each valid world is a change
pub moves_blocks : (w : World) (o : Outcome) → is_answer o.reply ≡ true → MarksTaken w o.moves o.after
    → (IsValid w → IsFresh w o → MovesBlocks w o.moves o.after) → (KeepsLimits w → KeepsLimits o.after) → Changes w o
moves_blocks w o answered marks moved limits = record {
  answered = answered;
  marks = marks;
  moved = λ valid fit fresh. moved valid fresh;
  kept = λ valid fresh. inl (moved valid fresh);
  limits = limits;
}

-- a thing of a world keeps its limits where all do
pub thing_limits : (w : World) (addr : ℕ) (thing : Thing) → thing_at w addr ≡ Some thing → KeepsLimits w
    → IsValidThing thing
thing_limits w addr thing is limits = subst (λ t. IfSome t IsValidThing) is (limits.things addr)

-- a call that takes no block marks none
pub none_marked : (w : World) (o : Outcome) (next : World) → o.after ≡ next → taken_addresses o.moves ≡ []
    → next.marks ≡ w.marks → next.shown ≡ [] → next.taken ≡ w.taken → MarksTaken w o.moves o.after
none_marked w o next is none marks shown taken = record {
  marks = ap (λ (v : World). v.marks) is ∙ marks ∙ sym (ap (λ addrs. w.marks ++ addrs) none ∙ append-nil w.marks);
  shown = ap (λ (v : World). v.shown) is ∙ shown;
  taken = ap (λ (v : World). v.taken) is ∙ taken;
}

-- a call that takes one marks it
pub one_marked : (w : World) (o : Outcome) (addr : ℕ) (next : World) → o.after ≡ next
    → taken_addresses o.moves ≡ addr ∷ []
    → next.marks ≡ w.marks ++ addr ∷ [] → next.shown ≡ [] → next.taken ≡ w.taken → MarksTaken w o.moves o.after
one_marked w o addr next is one marks shown taken = record {
  marks = ap (λ (v : World). v.marks) is ∙ marks ∙ sym (ap (λ addrs. w.marks ++ addrs) one);
  shown = ap (λ (v : World). v.shown) is ∙ shown;
  taken = ap (λ (v : World). v.taken) is ∙ taken;
}

-- the blocks at an address, where a thing may be
abbrev pub blocks_at : ℕ → Option Thing → List UsedBlock
blocks_at addr None = []
blocks_at addr (Some thing) = thing_blocks addr thing

-- what is at one address may be another thing, or none, than before; the blocks there go with the moves
pub record SwapsThing (w : World) (o : Outcome) : Type 0 where
  pub addr : ℕ
  pub before : Option Thing
  pub after : Option Thing
  pub taken : List UsedBlock
  pub given : List UsedBlock
  pub answered : is_answer o.reply ≡ true
  pub marks : MarksTaken w o.moves o.after
  pub needs : map (λ b. b.bytes) taken ≡ taken_needs o.moves
  pub takes : addresses_of taken ≡ taken_addresses o.moves
  pub gives : addresses_of given ≡ given_addresses o.moves
  pub was : IsFresh w o → thing_at w addr ≡ before
  pub things : o.after.things ≡ with_at w.things addr after
  pub names : o.after.names ≡ w.names
  pub tickets : ticket_blocks o.after.accounts ≡ ticket_blocks w.accounts
  pub sums : KeepsLimits w → (measure : UsedBlock → ℕ)
      → sum_by measure (blocks_at addr before) + sum_by measure taken ≡ sum_by measure
      (blocks_at addr after) + sum_by measure given
  pub valid : KeepsLimits w → IfSome after IsValidThing

module _ (measure : UsedBlock → ℕ) where
  -- what is measured of an entry's blocks
  abbrev of_entry : ℕ × Thing → ℕ
  of_entry e = sum_by measure (thing_blocks e.0 e.1)

  counted : (addr : ℕ) (o : Option Thing) → counted_at of_entry addr o ≡ sum_by measure (blocks_at addr o)
  counted addr None = refl
  counted addr (Some thing) = refl

  swapped : (m : Things) (addr : ℕ) (o : Option Thing)
      → sum_by of_entry (entries (with_at m addr o)) + counted_at of_entry addr (get m addr) ≡ sum_by of_entry
      (entries m) + counted_at of_entry addr o
  swapped m addr None = omega (arith, sum_by-removed of_entry m addr)
  swapped m addr (Some thing) = sum_by-inserted of_entry m addr thing

  -- the blocks of things with another one, or none, at an address
  pub things_blocks-with_at : (m : Things) (addr : ℕ) (o : Option Thing)
      → sum_by measure (things_blocks (with_at m addr o)) + sum_by measure (blocks_at addr (get m addr))
      ≡ sum_by measure (things_blocks m) + sum_by measure (blocks_at addr o)
  things_blocks-with_at m addr o =
      omega (
        arith,
        swapped m addr o,
        counted addr o,
        counted addr (get m addr),
        sum_by-flat_map measure (λ (e : ℕ × Thing). thing_blocks e.0 e.1) (entries m),
        sum_by-flat_map measure (λ (e : ℕ × Thing). thing_blocks e.0 e.1) (entries (with_at m addr o)),
      )

  -- the blocks of a world are those of its things, of its names and of its tickets
  pub sum_by-blocks_of : (w : World)
      → sum_by measure (blocks_of w)
      ≡ sum_by measure (things_blocks w.things) + sum_by measure (map block_for_name w.names) + sum_by measure
      (ticket_blocks w.accounts)
  sum_by-blocks_of w =
      omega (
        arith,
        sum_by-append measure (things_blocks w.things ++ map block_for_name w.names) (ticket_blocks w.accounts),
        sum_by-append measure (things_blocks w.things) (map block_for_name w.names),
      )

-- a thing that was swapped is a change
pub swaps_thing : (w : World) (o : Outcome) → SwapsThing w o → Changes w o
swaps_thing w o s = moves_blocks w o s.answered s.marks
    (λ valid fresh. record {
      taken = s.taken;
      given = s.given;
      needs = s.needs;
      takes = s.takes;
      gives = s.gives;
      sums = λ measure.
          omega (
            arith,
            s.sums (limits_of w valid) measure,
            sum_by-blocks_of measure w,
            sum_by-blocks_of measure o.after,
            things_blocks-with_at measure w.things s.addr s.after,
            ap (λ t. sum_by measure (blocks_at s.addr t)) (s.was fresh),
            ap (λ m. sum_by measure (things_blocks m)) s.things,
            ap (λ ns. sum_by measure (map block_for_name ns)) s.names,
            ap (sum_by measure) s.tickets,
          );
    })
    (λ limits. record {
      things = λ q. subst (λ t. IfSome t IsValidThing)
          (sym (ap (λ m. get m q) s.things ∙ get-with_at w.things s.addr s.after q))
          (at q limits (is_at (nat_cmp q) s.addr));
      names = subst (λ ns. All (λ name. IsBetween 1 longest_name (length name)) (map (λ (n : Name). n.name) ns))
          (sym s.names) limits.names;
      distinct_names = subst (λ ns. AreDistinct (map (λ (n : Name). n.name) ns)) (sym s.names) limits.distinct_names;
    })
  where
    at : (q : ℕ) → KeepsLimits w → (b : Bool) → IfSome (cond b s.after (get w.things q)) IsValidThing
    at q limits b =
        elim b as (λ b. IfSome (cond b s.after (get w.things q)) IsValidThing) [
          | true ↦ s.valid limits
          | false ↦ limits.things q
        ]

-- the names may be others, and the blocks of names go with the moves
pub record SwapsNames (w : World) (o : Outcome) : Type 0 where
  pub taken : List UsedBlock
  pub given : List UsedBlock
  pub answered : is_answer o.reply ≡ true
  pub marks : MarksTaken w o.moves o.after
  pub needs : map (λ b. b.bytes) taken ≡ taken_needs o.moves
  pub takes : addresses_of taken ≡ taken_addresses o.moves
  pub gives : addresses_of given ≡ given_addresses o.moves
  pub things : o.after.things ≡ w.things
  pub tickets : ticket_blocks o.after.accounts ≡ ticket_blocks w.accounts
  pub sums : (measure : UsedBlock → ℕ)
      → sum_by measure (map block_for_name w.names) + sum_by measure taken ≡ sum_by measure
      (map block_for_name o.after.names) + sum_by measure given
  pub names : KeepsLimits w → All (λ name. IsBetween 1 longest_name (length name)) (names_of o.after)
  pub distinct_names : KeepsLimits w → AreDistinct (names_of o.after)

-- names that were swapped are a change
pub swaps_names : (w : World) (o : Outcome) → SwapsNames w o → Changes w o
swaps_names w o s = moves_blocks w o s.answered s.marks
    (λ valid fresh. record {
      taken = s.taken;
      given = s.given;
      needs = s.needs;
      takes = s.takes;
      gives = s.gives;
      sums = λ measure.
          omega (
            arith,
            s.sums measure,
            sum_by-blocks_of measure w,
            sum_by-blocks_of measure o.after,
            ap (λ m. sum_by measure (things_blocks m)) s.things,
            ap (sum_by measure) s.tickets,
          );
    })
    (λ limits. record {
      things = λ q. subst (λ m. IfSome (get m q) IsValidThing) (sym s.things) (limits.things q);
      names = s.names limits;
      distinct_names = s.distinct_names limits;
    })

-- a world with the things and the names of one that keeps its limits keeps them
pub same_limits : {w v : World} → v.things ≡ w.things → v.names ≡ w.names → KeepsLimits w → KeepsLimits v
same_limits things names limits = record {
  things = λ q. subst (λ m. IfSome (get m q) IsValidThing) (sym things) (limits.things q);
  names = subst (λ ns. All (λ name. IsBetween 1 longest_name (length name)) (map (λ (n : Name). n.name) ns))
      (sym names) limits.names;
  distinct_names = subst (λ ns. AreDistinct (map (λ (n : Name). n.name) ns)) (sym names) limits.distinct_names;
}

-- the tickets may be others, and their blocks go with the moves
pub record SwapsTickets (w : World) (o : Outcome) : Type 0 where
  pub taken : List UsedBlock
  pub given : List UsedBlock
  pub answered : is_answer o.reply ≡ true
  pub marks : MarksTaken w o.moves o.after
  pub needs : map (λ b. b.bytes) taken ≡ taken_needs o.moves
  pub takes : addresses_of taken ≡ taken_addresses o.moves
  pub gives : addresses_of given ≡ given_addresses o.moves
  pub things : o.after.things ≡ w.things
  pub names : o.after.names ≡ w.names
  pub sums : (measure : UsedBlock → ℕ)
      → sum_by measure (ticket_blocks w.accounts) + sum_by measure taken ≡ sum_by measure
      (ticket_blocks o.after.accounts) + sum_by measure given

-- tickets that were swapped are a change
pub swaps_tickets : (w : World) (o : Outcome) → SwapsTickets w o → Changes w o
swaps_tickets w o s = moves_blocks w o s.answered s.marks
    (λ valid fresh. record {
      taken = s.taken;
      given = s.given;
      needs = s.needs;
      takes = s.takes;
      gives = s.gives;
      sums = λ measure.
          omega (
            arith,
            s.sums measure,
            sum_by-blocks_of measure w,
            sum_by-blocks_of measure o.after,
            ap (λ m. sum_by measure (things_blocks m)) s.things,
            ap (λ ns. sum_by measure (map block_for_name ns)) s.names,
          );
    })
    (λ limits. same_limits s.things s.names limits)
