-- Each thing that a heap tells keeps its limits.
use Rattle.std.proofs.Common.{◌≡◌, ◌≤◌, ◌+◌, ◌-◌, ◌*◌, ◌==◌, ◌&&◌, ◌||◌, ℕ, Bool, List, cond, not, true, false, length, get_or, take, drop, map, arith, ap, ◌∙◌, refl, sym, subst, inl, inr, eqb-true}
use Rattle.std.specs.Prelude.{IfSome, Option, is_some, nat_le, nat_lt}
use Rattle.std.specs.List.{All}
use Rattle.std.proofs.lemmas.Bool.{and_parts, cases_Bool, leb-true, or_parts}
use Rattle.std.proofs.lemmas.List.{length-drop}
use Rattle.std.proofs.lemmas.List.Elements.{All-map}
use Rattle.sdr_base.specs.Blocks.{Block}
use Rattle.sdr_base.specs.declared.kind.Kind.{Kind}
use Rattle.sdr_base.specs.declared.kind.Kind.TheVariants as kinds
use Rattle.audit_owners.specs.Members.{members}
use Rattle.sdr_model.specs.HashSteps.{bucket_of}
use Rattle.sdr_model.specs.Limits.{is_no_capsule, longest_key, longest_raw, longest_string}
use Rattle.sdr_model.specs.Valid.{IsBetween, IsValidCapsule, IsValidSubject, IsValidTable, IsValidThing}
use Rattle.sdr_model.specs.Zco.{taken_over}
use Rattle.sdr_model.specs.declared.things.HashEntry.{HashEntry}
use Rattle.sdr_model.specs.declared.zco.Subject.{Subject}
use Rattle.sdr_model.specs.declared.zco.Subject.TheVariants as subjects
use Rattle.sdr_model.specs.declared.things.Thing.{Thing}
use Rattle.audit_owners.specs.Chains.{first_link, is_member}
use Rattle.audit_owners.specs.Reading.{behind_words, bytes_of}
use Rattle.audit_owners.specs.View.{View, is_kind, word_of}
use Rattle.audit_owners.specs.declared.owner.Owner.{Owner}
use Rattle.audit_owners.specs.declared.owner.Owner.TheVariants as owners
use Rattle.audit_owners.proofs.ReadingLemmas.{IsOf}
use Rattle.audit_world.proofs.ChainLemmas.{IsTold}
use Rattle.audit_world.proofs.HashLemmas.{hash_layout, own_hash}
use Rattle.audit_world.proofs.LayoutLemmas.{word_told}
use Rattle.audit_world.proofs.LinkLemmas.{extent_chain, header_chain, trailer_chain}
use Rattle.audit_world.proofs.OccupiedLemmas.{all_so, goes_members}
use Rattle.audit_world.proofs.OwnLemmas.{IsAudited, layout_of, own_of}
use Rattle.audit_world.proofs.RiseLemmas.{rows_rise}
use Rattle.audit_world.proofs.SourceLemmas.{source_of, source_word, subject_by}
use Rattle.audit_world.proofs.TiesLemmas.{thing_cases}
use Rattle.audit_world.proofs.Fitting.{AreFitting}
use Rattle.audit_world.specs.Told.{bucket_told, capsule_told, extent_told, table_told, thing_of_kind, thing_told}
use Rattle.audit_blocks.specs.Content.{field}

-- a length of which a test doesn't say that it is less or more
pub between_so : (least most n : ℕ) → not (nat_lt n least || nat_lt most n) ≡ true → IsBetween least most n
between_so least most n holds =
    let p = or_parts (nat_lt n least) (nat_lt most n) (not_true (nat_lt n least || nat_lt most n) holds) in
    (not_less n least p.0, not_less most n p.1)
  where
    not_true : (b : Bool) → not b ≡ true → b ≡ false
    not_true true is = let d : false ≡ true = is in cc
    not_true false is = refl

    not_less : (x y : ℕ) → nat_lt x y ≡ false → y ≤ x
    not_less x y off = grind (arith, off)

-- a subject whose path, if it is a file's, keeps to the limits
subject_valid : (medium number : ℕ) (path : List ℕ) → (medium ≡ 1 → IsBetween 1 255 (length path)) → IsValidSubject (subject_by medium number path)
subject_valid medium number path file = elim (cases_Bool (medium == 1)) [
  | inl is ↦
      subst IsValidSubject (sym (ap (λ (t : Bool). cond t (subjects.File path) (subject_else medium number)) is)) (file (eqb-true medium 1 is))
  | inr off ↦
      subst IsValidSubject (sym (ap (λ (t : Bool). cond t (subjects.File path) (subject_else medium number)) off)) (else_valid medium number)
]
  where
    subject_else : ℕ → ℕ → Subject
    subject_else medium number = cond (medium == 2) (subjects.Bulk number) (cond (medium == 3) (subjects.Heap number) (subjects.Obj number))

    else_valid : (medium number : ℕ) → IsValidSubject (cond (medium == 2) (subjects.Bulk number) (cond (medium == 3) (subjects.Heap number) (subjects.Obj number)))
    else_valid medium number =
        elim (medium == 2) as (λ t. IsValidSubject (cond t (subjects.Bulk number) (cond (medium == 3) (subjects.Heap number) (subjects.Obj number)))) [
          | true ↦ tt
          | false ↦
              elim (medium == 3) as (λ t. IsValidSubject (cond t (subjects.Heap number) (subjects.Obj number))) [ true ↦ tt | false ↦ tt ]
        ]

-- a subject that is a raw object which its source owns has the number of that medium
pub owned_medium : (medium number : ℕ) (path : List ℕ) → is_some (taken_over (subject_by medium number path)) ≡ true → medium ≡ 3
owned_medium medium number path some = eqb-true medium 3 (tested (medium == 1) (medium == 2) (medium == 3) some)
  where
    tested : (s t u : Bool) →
        is_some (taken_over (cond s (subjects.File path) (cond t (subjects.Bulk number) (cond u (subjects.Heap number) (subjects.Obj number))))) ≡ true → u ≡ true
    tested true t u some = let d : false ≡ true = some in cc
    tested false true u some = let d : false ≡ true = some in cc
    tested false false true some = refl
    tested false false false some = let d : false ≡ true = some in cc

module _ (heap : View) (words : ℕ) (a : IsAudited heap words) where
  -- how long the bytes behind some words are
  long_behind : (kind : Kind) (addr : ℕ) (b : IsOf (heap.blocks addr) kind) (count : ℕ) → length (behind_words (heap.blocks addr) count) ≡ length b.own.bytes - 8 * count
  long_behind kind addr b count = ap (λ (o : Option Block). length (behind_words o count)) b.is ∙ length-drop (8 * count) b.own.bytes

  -- the blocks of a chain of capsules keep to their limits
  capsule_valid : (addr : ℕ) → is_kind kinds.Capsule (heap.blocks addr) ≡ true → IsValidCapsule (capsule_told heap addr)
  capsule_valid addr is =
      let b = own_of heap words a kinds.Capsule addr is in
      let l = and_parts (nat_le 8 (length b.own.bytes)) (not (is_no_capsule (length b.own.bytes - 8))) (layout_of heap words a kinds.Capsule addr b) in
      subst (λ (n : ℕ). IsBetween 1 1024 n) (sym (long_behind kinds.Capsule addr b 1)) (between_so 1 1024 (length b.own.bytes - 8) l.1)

  table_valid : (addr : ℕ) → is_kind kinds.Table (heap.blocks addr) ≡ true → IsValidTable (table_told (heap.blocks addr))
  table_valid addr is =
      let b = own_of heap words a kinds.Table addr is in
      let first : List ℕ = take 96 b.own.bytes in
      let l = layout_of heap words a kinds.Table addr b in
      let p = and_parts _ (length b.own.bytes == 24 + field first 2 * field first 1) l in
      let q = and_parts _ (nat_le (field first 2 * field first 1) longest_raw) p.0 in
      let r = and_parts _ (nat_le (field first 2) longest_raw) q.0 in
      let s = and_parts (nat_le 24 (length b.own.bytes)) (nat_le (field first 1) longest_raw) r.0 in
      let long = leb-true 24 (length b.own.bytes) s.0 in
      let size = word_told (heap.blocks addr) b.own 1 b.is (omega (arith, long)) (omega arith) in
      let rows = word_told (heap.blocks addr) b.own 2 b.is (omega (arith, long)) (omega arith) in
      let whole = eqb-true (length b.own.bytes) (24 + field first 2 * field first 1) p.1 in
      let behind = long_behind kinds.Table addr b 3 in
      let all : word_of (heap.blocks addr) 2 * word_of (heap.blocks addr) 1 ≡ field first 2 * field first 1 = λ i. rows i * size i in
      record {
        rows = subst (λ (n : ℕ). n ≤ longest_raw) (sym rows) (leb-true (field first 2) longest_raw r.1);
        size = subst (λ (n : ℕ). n ≤ longest_raw) (sym size) (leb-true (field first 1) longest_raw s.1);
        all_rows = subst (λ (n : ℕ). n ≤ longest_raw) (sym all) (leb-true (field first 2 * field first 1) longest_raw q.1);
        bytes = omega (arith, behind, whole, all);
      }

  module _ (f : AreFitting heap words) where
    -- each thing keeps its limits
    pub thing_valid : (addr : ℕ) → IfSome (thing_told heap words addr) IsValidThing
    thing_valid addr =
        thing_cases heap words (λ (o : Option Thing). IfSome o IsValidThing) addr (λ at. tt) by_kind
      where
        capsules : (owner : Owner) → IsTold heap words owner → ((n : ℕ) → is_member heap owner n ≡ true → is_kind kinds.Capsule (heap.blocks n) ≡ true) →
            All IsValidCapsule (map (capsule_told heap) (members heap words owner))
        capsules owner chain capsule =
            All-map IsValidCapsule (capsule_told heap) (members heap words owner)
            (all_so (λ n. is_member heap owner n ≡ true) (λ n. IsValidCapsule (capsule_told heap n)) (λ n member. capsule_valid n (capsule n member)) (members heap words owner)
            (goes_members heap words owner 0 (first_link heap owner) (members heap words owner) chain.last 0
            chain.goes))

        by_kind : (kind : Kind) → is_kind kind (heap.blocks addr) ≡ true → IfSome (thing_of_kind kind heap words addr) IsValidThing
        by_kind kinds.Raw is =
            let b = own_of heap words a kinds.Raw addr is in
            let most = leb-true (length b.own.bytes) (8 + longest_raw) (and_parts (nat_le 8 (length b.own.bytes)) _ (layout_of heap words a kinds.Raw addr b)).1 in
            let behind = long_behind kinds.Raw addr b 1 in
            omega (arith, most, behind)
        by_kind kinds.Text is =
            let b = own_of heap words a kinds.Text addr is in
            let first : List ℕ = take 96 b.own.bytes in
            let p = and_parts (nat_le 1 (length b.own.bytes) && length b.own.bytes == 1 + get_or first 0 0) (nat_le (get_or first 0 0) longest_string) (layout_of heap words a kinds.Text addr b) in
            let most = leb-true (get_or first 0 0) longest_string p.1 in
            let count = eqb-true (length b.own.bytes) (1 + get_or first 0 0) (and_parts (nat_le 1 (length b.own.bytes)) _ p.0).1 in
            let behind : length (drop 1 (bytes_of (heap.blocks addr))) ≡ length b.own.bytes - 1 = ap (λ (o : Option Block). length (drop 1 (bytes_of o))) b.is ∙ length-drop 1 b.own.bytes in
            omega (arith, most, count, behind)
        by_kind kinds.List is = tt
        by_kind kinds.Element is = tt
        by_kind kinds.Table is = table_valid addr is
        by_kind kinds.Hash is =
            let b = own_hash heap words a addr is in
            let l = hash_layout heap words a addr is in
            let long = l.long in
            let key = word_told (heap.blocks addr) b.own 0 b.is (omega (arith, long)) (omega arith) in
            let buckets = word_told (heap.blocks addr) b.own 1 b.is (omega (arith, long)) (omega arith) in
            let k = and_parts (nat_le 1 (field (take 96 b.own.bytes) 0)) (nat_le (field (take 96 b.own.bytes) 0) longest_key) l.key in
            let h = f.hashes addr is in
            record {
              key_length = subst (λ (n : ℕ). IsBetween 1 255 n) (sym key) (leb-true 1 (field (take 96 b.own.bytes) 0) k.0, leb-true (field (take 96 b.own.bytes) 0) 255 k.1);
              buckets = subst (λ (n : ℕ). IsBetween 1 256 n) (sym buckets) (l.least, l.most);
              keys = h.lengths;
              distinct_keys = h.distinct;
              by_bucket =
                  rows_rise (λ (e : HashEntry). e.key) (bucket_of (word_of (heap.blocks addr) 1)) (bucket_told heap words addr) 0 (word_of (heap.blocks addr) 1)
                  (λ j low below. h.buckets j (omega (arith, below)));
            }
        by_kind kinds.HashEntry is = tt
        by_kind kinds.Name is = tt
        by_kind kinds.Source is =
            let b = own_of heap words a kinds.Source addr is in
            let l = source_of heap words a addr b in
            let medium = source_word heap words a addr b 0 (omega arith) in
            let few = l.few in
            let length_word = source_word heap words a addr b 5 (omega arith) in
            record {
              subject =
                  subject_valid (word_of (heap.blocks addr) 0) (word_of (heap.blocks addr) 4) (behind_words (heap.blocks addr) 6)
                  (λ file. subst (λ (n : ℕ). IsBetween 1 255 n) (sym (long_behind kinds.Source addr b 6)) (between_so 1 255 (length b.own.bytes - 48) (l.path (sym medium ∙ file))));
              length = omega (arith, few, length_word);
              unflagged = λ owned.
                  let null = (f.sources addr is).unflagged (owned_medium (word_of (heap.blocks addr) 0) (word_of (heap.blocks addr) 4) (behind_words (heap.blocks addr) 6) owned) in
                  ap (λ (n : ℕ). n == 1) null;
            }
        by_kind kinds.Object is = record {
          headers = capsules (owners.Headers addr) (header_chain heap words a addr is) (λ n member. member);
          trailers = capsules (owners.Trailers addr) (trailer_chain heap words a addr is) (λ n member. member);
          extents =
              All-map (λ e. 1 ≤ e.length) (extent_told heap) (members heap words (owners.Extents addr))
              (all_so (λ n. is_member heap (owners.Extents addr) n ≡ true) (λ n. 1 ≤ (extent_told heap n).length) (λ n member. (f.extents n member).some)
              (members heap words (owners.Extents addr))
              (goes_members heap words (owners.Extents addr) 0 (first_link heap (owners.Extents addr)) (members heap words (owners.Extents addr)) (extent_chain heap words a addr is).last 0
              (extent_chain heap words a addr is).goes));
          part = f.parts addr is;
        }
        by_kind kinds.Extent is = tt
        by_kind kinds.Capsule is = tt
        by_kind kinds.Ticket is = tt
