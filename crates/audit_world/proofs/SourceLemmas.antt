-- The block of a source is that of what is read of it.
use Rattle.std.proofs.Common.{◌≡◌, ◌≤◌, ◌+◌, ◌-◌, ◌*◌, ◌==◌, ◌&&◌, ℕ, zero, suc, Bool, List, [], ◌∷◌, cond, not, true, length, take, arith, ap, ◌∙◌, refl, sym}
use Rattle.std.specs.Prelude.{Some, nat_le}
use Rattle.std.proofs.lemmas.Bool.{and_parts, eq-eqb, eqb-true, leb-true, ne_eqb}
use Rattle.sdr_stands.specs.Rows.{medium_of, path_of, source_row, subject_number}
use Rattle.sdr_base.specs.Sources.{medium_number, source_block}
use Rattle.sdr_base.specs.Words.{layout}
use Rattle.sdr_base.specs.declared.kind.Kind.TheVariants as kinds
use Rattle.sdr_model.specs.Limits.{is_no_path, longest_source}
use Rattle.sdr_model.specs.declared.zco.Subject.{Subject}
use Rattle.sdr_model.specs.declared.zco.Subject.TheVariants as subjects
use Rattle.audit_owners.proofs.ReadingLemmas.{IsOf, flag_back, laid, none_behind}
use Rattle.audit_owners.specs.Reading.{behind_words}
use Rattle.audit_owners.specs.View.{View, is_kind, word_of}
use Rattle.audit_world.proofs.LayoutLemmas.{HasLayout, word_told}
use Rattle.audit_world.proofs.OwnLemmas.{IsAudited, layout_of, own_of, readable}
use Rattle.audit_world.specs.Told.{source_told}
use Rattle.audit_blocks.specs.Content.{field, is_flag}

-- what the layout of a source asks of its first bytes, and of its length
pub record IsSource (count : ℕ) (first : List ℕ) : Type 0 where
  pub long : 48 ≤ count
  pub least : 1 ≤ field first 0
  pub most : field first 0 ≤ 4
  pub flagged : field first 1 ≤ 1
  pub few : field first 5 ≤ longest_source
  pub null : field first 0 ≡ 1 → field first 4 ≡ 0
  pub path : field first 0 ≡ 1 → not (is_no_path (count - 48)) ≡ true
  pub short : (field first 0 ≡ 1 → ⊥) → count ≡ 48

pub is_source_so : (bytes : List ℕ) → HasLayout kinds.Source bytes → IsSource (length bytes) (take 96 bytes)
is_source_so bytes l =
    let first : List ℕ = take 96 bytes in
    let count : ℕ = length bytes in
    let file : Bool = field first 4 == 0 && not (is_no_path (count - 48)) in
    let p = and_parts _ (cond (field first 0 == 1) file (count == 48)) l in
    let q = and_parts _ (nat_le (field first 5) longest_source) p.0 in
    let r = and_parts _ (is_flag (field first 1)) q.0 in
    let s = and_parts _ (nat_le (field first 0) 4) r.0 in
    let t = and_parts (nat_le 48 count) (nat_le 1 (field first 0)) s.0 in
    let told : field first 0 ≡ 1 → file ≡ true =
    λ e. sym (ap (λ (b : Bool). cond b file (count == 48)) (eq-eqb (field first 0) 1 e)) ∙ p.1 in
    record {
      long = leb-true 48 count t.0;
      least = leb-true 1 (field first 0) t.1;
      most = leb-true (field first 0) 4 s.1;
      flagged = leb-true (field first 1) 1 r.1;
      few = leb-true (field first 5) longest_source q.1;
      null = λ e. eqb-true (field first 4) 0 (and_parts (field first 4 == 0) _ (told e)).0;
      path = λ e. (and_parts (field first 4 == 0) (not (is_no_path (count - 48))) (told e)).1;
      short = λ off.
          eqb-true count 48 (sym (ap (λ (b : Bool). cond b file (count == 48)) (ne_eqb (field first 0) 1 off)) ∙ p.1);
    }

-- the subject that a number of a medium, a number of a subject, and a path tell
abbrev pub subject_by : ℕ → ℕ → List ℕ → Subject
subject_by medium subject path =
    cond (medium == 1) (subjects.File path) (cond (medium == 2) (subjects.Bulk subject) (cond (medium == 3) (subjects.Heap subject) (subjects.Obj subject)))

-- they are those that the subject's row has
record IsSubject (medium number : ℕ) (path : List ℕ) (subject : Subject) : Type 0 where
  medium_is : medium ≡ medium_number (medium_of subject)
  number_is : number ≡ subject_number subject
  path_is : path ≡ path_of subject

subject_is : (medium number : ℕ) (path : List ℕ) → 1 ≤ medium → medium ≤ 4 → (medium ≡ 1 → number ≡ 0) → ((medium ≡ 1 → ⊥) → path ≡ []) →
    IsSubject medium number path (subject_by medium number path)
subject_is zero number path least most null none = absurd (omega (arith, least))
subject_is (suc zero) number path least most null none = record { medium_is = refl; number_is = null refl; path_is = refl }
subject_is (suc (suc zero)) number path least most null none =
    record { medium_is = refl; number_is = refl; path_is = none (λ e. let d : 2 ≡ 1 = e in omega (arith, d)) }
subject_is (suc (suc (suc zero))) number path least most null none =
    record { medium_is = refl; number_is = refl; path_is = none (λ e. let d : 3 ≡ 1 = e in omega (arith, d)) }
subject_is (suc (suc (suc (suc zero)))) number path least most null none =
    record { medium_is = refl; number_is = refl; path_is = none (λ e. let d : 4 ≡ 1 = e in omega (arith, d)) }
subject_is (suc (suc (suc (suc (suc n))))) number path least most null none = absurd (omega (arith, most))

module _ (heap : View) (words : ℕ) (a : IsAudited heap words) where
  pub source_of : (addr : ℕ) (b : IsOf (heap.blocks addr) kinds.Source) → IsSource (length b.own.bytes) (take 96 b.own.bytes)
  source_of addr b = is_source_so b.own.bytes (layout_of heap words a kinds.Source addr b)

  -- a word of it is what its first bytes tell
  pub source_word : (addr : ℕ) (b : IsOf (heap.blocks addr) kinds.Source) (n : ℕ) → 8 * n + 8 ≤ 48 →
      word_of (heap.blocks addr) n ≡ field (take 96 b.own.bytes) n
  source_word addr b n few =
      let long = (source_of addr b).long in
      word_told (heap.blocks addr) b.own n b.is (omega (arith, long, few)) (omega (arith, few))

  pub source_own : (addr : ℕ) → is_kind kinds.Source (heap.blocks addr) ≡ true →
      heap.blocks addr ≡ Some (source_block (word_of (heap.blocks addr) 2) (word_of (heap.blocks addr) 3) (source_row (source_told (heap.blocks addr))))
  source_own addr is =
      let b = own_of heap words a kinds.Source addr is in
      let l = source_of addr b in
      let w = word_of (heap.blocks addr) in
      let medium = source_word addr b 0 (omega arith) in
      let flag = source_word addr b 1 (omega arith) in
      let least = l.least in
      let most = l.most in
      let flagged = l.flagged in
      let s = subject_is (w 0) (w 4) (behind_words (heap.blocks addr) 6) (omega (arith, medium, least)) (omega (arith, medium, most))
      (λ e. source_word addr b 4 (omega arith) ∙ l.null (sym medium ∙ e))
      (λ off. none_behind heap (readable heap words a) kinds.Source addr b 6 (l.short (λ e. off (medium ∙ e)))) in
      laid heap (readable heap words a) kinds.Source addr b 6 l.long
      ∙ (λ i. Some (record {
        kind = kinds.Source;
        bytes =
            layout
            (s.medium_is i ∷ flag_back (w 1) (omega (arith, flag, flagged)) i ∷ w 2 ∷ w 3 ∷ s.number_is i ∷ w 5 ∷ []) (s.path_is i);
      }))
