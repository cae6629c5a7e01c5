-- No block stands in two chains of a world, nor in one twice.
use Rattle.std.proofs.Common.{◌≡◌, ◌≤◌, ◌+◌, ◌-◌, ◌*◌, ◌/◌, ◌==◌, ℕ, zero, suc, Bool, cond, List, [], ◌∷◌, ◌++◌, length, map, Some, arith, refl, sym, ap, ◌∙◌, inl, inr}
use Rattle.std.specs.Prelude.{Option, None, count_by}
use Rattle.std.specs.FinMap as finite
use Rattle.std.specs.List.{flat_map, range_with_len}
use Rattle.std.specs.Ordering.{is_eq, nat_cmp}
use Rattle.std.specs.declared.cmp.Ordering.TheVariants.{Equal, Greater, Less}
use Rattle.std.proofs.lemmas.Bool.{cases_eq, eq-eqb, ne_eqb}
use Rattle.std.proofs.lemmas.Grind.{flat_map-append}
use Rattle.std.proofs.lemmas.List.Sums.{sum_by-cons}
use Rattle.sdr_base.proofs.PoolsLemmas.{count_by-append}
use Rattle.sdr_base.proofs.StandingLemmas.{times-append}
use Rattle.sdr_base.specs.Blocks.{Block}
use Rattle.sdr_base.specs.Catalogue.{catalogue_entries, name_addr, name_block}
use Rattle.sdr_base.specs.Entries.{Entries, BlocksAre, times}
use Rattle.sdr_base.specs.Hashes.{HashItem, bucket_entries, hash_block, item_addr, item_block}
use Rattle.sdr_base.specs.Linked.{first_of, last_of, linked}
use Rattle.sdr_base.specs.Lists.{addr_of, element_block, elements_between, list_block}
use Rattle.sdr_base.specs.Section.{section}
use Rattle.sdr_base.specs.Tickets.{ticket_addr, ticket_block}
use Rattle.sdr_base.specs.ZcoObjects.{capsule_addr, capsule_block, capsule_entries, extent_addr, extent_block, extent_entries, object_block}
use Rattle.sdr_base.specs.declared.account.Acct.TheVariants as accts
use Rattle.sdr_model.specs.Accounts.{tickets_of}
use Rattle.sdr_model.specs.Hashes.{Hash}
use Rattle.sdr_model.specs.Valid.{IsValid}
use Rattle.sdr_model.specs.World.{World, thing_at}
use Rattle.sdr_model.specs.declared.things.Thing.{Thing}
use Rattle.sdr_model.specs.declared.things.Thing.TheVariants as things
use Rattle.sdr_stands.specs.Rows.{bucket_row, capsule_row, element_row, extent_row, hash_row, name_row, object_row}
use Rattle.sdr_model.specs.TicketRows.{ticket_row}
use Rattle.sdr_stands.specs.Standing.{entries_of, other_entries, queue_entries, thing_entries}
use Rattle.sdr_stands.specs.Ties.{ties_of}
use Rattle.audit_owners.proofs.OwnersLemmas.{owners_more}
use Rattle.sdr_base.specs.Entries.{AreOnce}
use Rattle.audit_owners.specs.Owners.{owned_at, owners_of, root_owners}
use Rattle.audit_owners.specs.View.{View}
use Rattle.audit_owners.specs.declared.owner.Owner.{Owner}
use Rattle.audit_owners.specs.declared.owner.Owner.TheVariants as owners
use Rattle.sdr_audit.proofs.OwnerLemmas.{owned_are, owners_in}
use Rattle.sdr_audit.specs.WorldChains.{chain_in, elements_of, extents_of, headers_of, items_of, trailers_of}

-- a sum over the numbers below one
abbrev upto : (ℕ → ℕ) → ℕ → ℕ
upto f zero = 0
upto f (suc n) = upto f n + f n

upto-le : (f g : ℕ → ℕ) (n : ℕ) → ((i : ℕ) → f i ≤ g i) → upto f n ≤ upto g n
upto-le f g zero each = omega arith
upto-le f g (suc n) each = let rest = upto-le f g n each in let here = each n in omega (arith, rest, here)

upto-add : (f g : ℕ → ℕ) (n : ℕ) → upto (λ i. f i + g i) n ≡ upto f n + upto g n
upto-add f g zero = refl
upto-add f g (suc n) = let rest = upto-add f g n in omega (arith, rest)

upto-none : (n : ℕ) → upto (λ i. 0) n ≡ 0
upto-none zero = refl
upto-none (suc n) = let rest = upto-none n in omega (arith, rest)

-- of the words below one, one at most begins at a place
once_before : (place value n : ℕ) → 8 * n ≤ place → upto (λ i. cond (place == 8 * i) value 0) n ≡ 0
once_before place value zero before = refl
once_before place value (suc n) before =
    let rest = once_before place value n (omega (arith, before)) in
    let here : cond {A = ℕ} (place == 8 * n) value 0 ≡ 0 = ap (λ (t : Bool). cond t value 0) (ne_eqb place (8 * n) (λ e. omega (arith, e, before))) in
    omega (arith, rest, here)

once_place : (place value n : ℕ) → upto (λ i. cond (place == 8 * i) value 0) n ≤ value
once_place place value zero = omega arith
once_place place value (suc n) = elim (cases_eq place (8 * n)) [
  | inl same ↦
      let rest = once_before place value n (omega (arith, same)) in
      let here : cond {A = ℕ} (place == 8 * n) value 0 ≡ value = ap (λ (t : Bool). cond t value 0) (eq-eqb place (8 * n) same) in
      omega (arith, rest, here)
  | inr off ↦
      let rest = once_place place value n in
      let here : cond {A = ℕ} (place == 8 * n) value 0 ≡ 0 = ap (λ (t : Bool). cond t value 0) (ne_eqb place (8 * n) off) in
      omega (arith, rest, here)
]

module _ (a : ℕ) where
  abbrev count : List ℕ → ℕ
  count xs = count_by (λ other. other == a) xs

  count-append : (xs ys : List ℕ) → count (xs ++ ys) ≡ count xs + count ys
  count-append xs ys = count_by-append (λ other. other == a) xs ys

  -- the blocks of rows are listed as often as their addresses
  times-linked : {X : Type 0} (addr : X → ℕ) (block : ℕ → ℕ → X → Block) (before next : ℕ) (xs : List X) →
      times a (linked addr block before next xs) ≡ count (map addr xs)
  unfolding times linked
  times-linked addr block before next [] = refl
  times-linked addr block before next (x ∷ xs) =
      let rest = times-linked addr block (addr x) next xs in
      let more = sum_by-cons (λ (other : ℕ). cond {A = ℕ} (other == a) 1 0) (addr x) (map addr xs) in
      omega (arith, rest, more)

  times-cons : (e : ℕ × Block) (es : Entries) → times a es ≤ times a (e ∷ es)
  unfolding times
  times-cons e es = omega arith

  module _ (w : World) where
    -- what stands in the chains of some owners
    abbrev held : List Owner → ℕ
    held os = count (flat_map (chain_in w) os)

    held-append : (xs ys : List Owner) → held (xs ++ ys) ≡ held xs + held ys
    held-append xs ys = ap count (flat_map-append (chain_in w) xs ys) ∙ count-append (flat_map (chain_in w) xs) (flat_map (chain_in w) ys)

    held-cons : (o : Owner) (os : List Owner) → held (o ∷ os) ≡ count (chain_in w o) + held os
    held-cons o os = count-append (chain_in w o) (flat_map (chain_in w) os)

    -- the buckets of a hash hold its entries
    held_buckets : (addr : ℕ) (hash : Hash) → thing_at w addr ≡ Some (things.Hash hash) → (ns : List ℕ) →
        held (map (λ number. owners.Bucket addr (3 + number)) ns) ≡ times a (flat_map bucket_entries (map (bucket_row hash) ns))
    unfolding times
    held_buckets addr hash is [] = refl
    held_buckets addr hash is (n ∷ ns) =
        let rest = held_buckets addr hash is ns in
        let more = held-cons (owners.Bucket addr (3 + n)) (map (λ number. owners.Bucket addr (3 + number)) ns) in
        let back : 3 + n - 3 ≡ n = omega arith in
        let here : count (chain_in w (owners.Bucket addr (3 + n))) ≡ times a (bucket_entries (bucket_row hash n)) =
        ap (λ (items : List HashItem). count (map item_addr items)) (ap (items_of (3 + n - 3)) is ∙ ap (bucket_row hash) back)
        ∙ sym (times-linked item_addr item_block 0 0 (bucket_row hash n)) in
        let both = times-append a (bucket_entries (bucket_row hash n)) (flat_map bucket_entries (map (bucket_row hash) ns)) in
        omega (arith, rest, more, here, both)

    -- how often a thing's blocks are listed
    abbrev listed : ℕ → Option Thing → ℕ
    listed addr None = 0
    listed addr (Some thing) = times a (thing_entries (ties_of w) addr thing)

    -- the chains of a thing hold no more than its blocks
    held_thing : (addr : ℕ) (o : Option Thing) → thing_at w addr ≡ o → held (owners_in addr o) ≤ listed addr o
    held_thing addr None is = omega arith
    held_thing addr (Some (things.Raw bytes)) is = omega arith
    held_thing addr (Some (things.Text text)) is = omega arith
    held_thing addr (Some (things.List list)) is =
        let rows = map element_row list.elements in
        let more = held-cons (owners.List addr) [] in
        let here : count (chain_in w (owners.List addr)) ≡ times a (elements_between addr 0 0 rows) =
        ap (λ (o : Option Thing). count (map addr_of (elements_of o))) is ∙ sym (times-linked addr_of (element_block addr) 0 0 rows) in
        let less = times-cons (addr, list_block list.user (length rows) (first_of addr_of 0 rows) (last_of addr_of 0 rows)) (elements_between addr 0 0 rows) in
        omega (arith, more, here, less)
    held_thing addr (Some (things.Table table)) is = omega arith
    held_thing addr (Some (things.Hash hash)) is =
        let whole : (24 + 8 * hash.buckets) / 8 - 3 ≡ hash.buckets = omega arith in
        let here : held (owners_in addr (Some (things.Hash hash))) ≡ times a (flat_map bucket_entries (map (bucket_row hash) (range_with_len 0 hash.buckets))) =
        ap (λ (n : ℕ). held (map (λ number. owners.Bucket addr (3 + number)) (range_with_len 0 n))) whole
        ∙ held_buckets addr hash is (range_with_len 0 hash.buckets) in
        let less = times-cons (addr, hash_block (hash_row hash)) (flat_map bucket_entries (map (bucket_row hash) (range_with_len 0 hash.buckets))) in
        omega (arith, here, less)
    held_thing addr (Some (things.Source source)) is = omega arith
    held_thing addr (Some (things.Object z)) is =
        let headers = map capsule_row z.headers in
        let extents = map extent_row z.extents in
        let trailers = map capsule_row z.trailers in
        let one = held-cons (owners.Headers addr) (owners.Extents addr ∷ owners.Trailers addr ∷ []) in
        let two = held-cons (owners.Extents addr) (owners.Trailers addr ∷ []) in
        let three = held-cons (owners.Trailers addr) [] in
        let h : count (chain_in w (owners.Headers addr)) ≡ times a (capsule_entries headers) =
        ap (λ (o : Option Thing). count (map capsule_addr (headers_of o))) is ∙ sym (times-linked capsule_addr capsule_block 0 0 headers) in
        let e : count (chain_in w (owners.Extents addr)) ≡ times a (extent_entries extents) =
        ap (λ (o : Option Thing). count (map extent_addr (extents_of o))) is ∙ sym (times-linked extent_addr extent_block 0 0 extents) in
        let t : count (chain_in w (owners.Trailers addr)) ≡ times a (capsule_entries trailers) =
        ap (λ (o : Option Thing). count (map capsule_addr (trailers_of o))) is ∙ sym (times-linked capsule_addr capsule_block 0 0 trailers) in
        let both = times-append a (capsule_entries headers) (extent_entries extents) in
        let all = times-append a (capsule_entries headers ++ extent_entries extents) (capsule_entries trailers) in
        let less = times-cons (addr, object_block (object_row z)) (capsule_entries headers ++ extent_entries extents ++ capsule_entries trailers) in
        omega (arith, one, two, three, h, e, t, both, all, less)

    -- a thing of a map at a key is the first one or one of the others
    at_key : (k : ℕ) (e : ℕ × Thing) (es : List (ℕ × Thing)) →
        listed k (finite.find nat_cmp k (e ∷ es)) ≤ cond (e.0 == k) (listed e.0 (Some e.1)) 0 + listed k (finite.find nat_cmp k es)
    at_key k e es =
        elim (nat_cmp k e.0) as
        (λ o. nat_cmp k e.0 ≡ o →
        listed k (cond (is_eq o) (Some e.1) (finite.find nat_cmp k es)) ≤ cond (e.0 == k) (listed e.0 (Some e.1)) 0 + listed k (finite.find nat_cmp k es)) [
          | Less ↦ λ is. omega arith
          | Equal ↦ λ is.
              let same : k ≡ e.0 = finite.nat_cmp-IsAntisymmetric k e.0 is in
              let here : cond {A = ℕ} (e.0 == k) (listed e.0 (Some e.1)) 0 ≡ listed e.0 (Some e.1) =
              ap (λ (t : Bool). cond t (listed e.0 (Some e.1)) 0) (eq-eqb e.0 k (sym same)) in
              let told : listed k (Some e.1) ≡ listed e.0 (Some e.1) = ap (λ (n : ℕ). listed n (Some e.1)) same in
              omega (arith, here, told)
          | Greater ↦ λ is. omega arith
        ] refl

    -- the things at the words below one have no more blocks than all things
    below_listed : (es : List (ℕ × Thing)) (n : ℕ) →
        upto (λ i. listed (8 * i) (finite.find nat_cmp (8 * i) es)) n ≤ times a (flat_map (λ (e : ℕ × Thing). thing_entries (ties_of w) e.0 e.1) es)
    unfolding times
    below_listed [] n = let none = upto-none n in omega (arith, none)
    below_listed (e ∷ es) n =
        let rest = below_listed es n in
        let here = once_place e.0 (listed e.0 (Some e.1)) n in
        let split =
        upto-le (λ i. listed (8 * i) (finite.find nat_cmp (8 * i) (e ∷ es)))
        (λ i. cond (e.0 == 8 * i) (listed e.0 (Some e.1)) 0 + listed (8 * i) (finite.find nat_cmp (8 * i) es)) n (λ i. at_key (8 * i) e es) in
        let add = upto-add (λ i. cond (e.0 == 8 * i) (listed e.0 (Some e.1)) 0) (λ i. listed (8 * i) (finite.find nat_cmp (8 * i) es)) n in
        let both = times-append a (thing_entries (ties_of w) e.0 e.1) (flat_map (λ (e : ℕ × Thing). thing_entries (ties_of w) e.0 e.1) es) in
        omega (arith, rest, here, split, add, both)

    module _ (heap : View) (stands : BlocksAre heap.blocks (entries_of w)) (valid : IsValid w) where
      held_words : (n : ℕ) → held (owners_of heap n) ≡ held root_owners + upto (λ i. held (owned_at heap (8 * i))) n
      held_words zero = omega arith
      held_words (suc n) =
          let rest = held_words n in
          let next : suc n ≡ n + 1 = omega arith in
          let whole : held (owners_of heap (suc n)) ≡ held (owners_of heap n ++ owned_at heap (8 * n)) =
          ap (λ (k : ℕ). held (owners_of heap k)) next ∙ ap held (sym (owners_more heap n)) in
          let both = held-append (owners_of heap n) (owned_at heap (8 * n)) in
          omega (arith, rest, whole, both)

      held_word : (i : ℕ) → held (owned_at heap (8 * i)) ≤ listed (8 * i) (finite.find nat_cmp (8 * i) (finite.entries w.things))
      held_word i =
          let own : held (owned_at heap (8 * i)) ≡ held (owners_in (8 * i) (thing_at w (8 * i))) = ap held (owned_are heap w stands valid (8 * i)) in
          let less = held_thing (8 * i) (thing_at w (8 * i)) refl in
          let found : listed (8 * i) (thing_at w (8 * i)) ≡ listed (8 * i) (finite.find nat_cmp (8 * i) (finite.entries w.things)) =
          ap (listed (8 * i)) (finite.get-entries w.things (8 * i)) in
          omega (arith, own, less, found)

      held_roots : held root_owners ≡ times a (other_entries w)
      held_roots =
          let names = map name_row w.names in
          let inbound = queue_entries w.accounts accts.Inbound in
          let outbound = queue_entries w.accounts accts.Outbound in
          let one = held-cons owners.Catalogue (owners.Queue accts.Inbound ∷ owners.Queue accts.Outbound ∷ []) in
          let two = held-cons (owners.Queue accts.Inbound) (owners.Queue accts.Outbound ∷ []) in
          let three = held-cons (owners.Queue accts.Outbound) [] in
          let n = times-linked name_addr name_block 0 0 names in
          let i = times-linked ticket_addr (ticket_block accts.Inbound) 0 0 (map ticket_row (tickets_of w.accounts accts.Inbound)) in
          let o = times-linked ticket_addr (ticket_block accts.Outbound) 0 0 (map ticket_row (tickets_of w.accounts accts.Outbound)) in
          let both = times-append a inbound outbound in
          let all = times-append a (catalogue_entries names) (inbound ++ outbound) in
          omega (arith, one, two, three, n, i, o, both, all)

      pub held_once : (n : ℕ) → held (owners_of heap n) ≤ 1
      held_once n =
          let words = held_words n in
          let each =
          upto-le (λ i. held (owned_at heap (8 * i))) (λ i. listed (8 * i) (finite.find nat_cmp (8 * i) (finite.entries w.things))) n held_word in
          let below = below_listed (finite.entries w.things) n in
          let roots = held_roots in
          let whole = times-append a (section (thing_entries (ties_of w)) w.things) (other_entries w) in
          let once = stands.once a in
          omega (arith, words, each, below, roots, whole, once)

-- no block stands in the chains of a heap twice
pub chains_once : (heap : View) (w : World) → BlocksAre heap.blocks (entries_of w) → IsValid w → (words : ℕ) → AreOnce (flat_map (chain_in w) (owners_of heap words))
chains_once heap w stands valid words addr = held_once addr w heap stands valid words
