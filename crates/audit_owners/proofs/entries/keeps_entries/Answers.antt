use Rattle.std.proofs.Common.{◌≡◌, ◌/◌, ◌==◌, ◌&&◌, ◌∙◌, ℕ, Bool, length, sum_by, arith, ap, sym}
use Rattle.std.specs.List.{list_all, range_with_len}
use Rattle.audit_owners.proofs.BlockLemmas.{few_words}
use Rattle.audit_owners.proofs.EntryLemmas.{both_first, few_entries, hash_told, told_count, told_none, told_right}
use Rattle.audit_owners.proofs.PlacesLemmas.{all_fail, all_more, sum_more}
use Rattle.audit_owners.specs.Entries.{bucket, bucket_count, entry_count, keeps_bucket}
use Rattle.audit_owners.specs.View.{view_in, word_of}
use Rattle.audit_owners.proofs.entries.keeps_entries.Goals as goal

pub returns-in-None : goal.returns-in-None
returns-in-None c =
    let heap = view_in c.args.heap.now in
    let words : ℕ = length c.args.heap.now / 8 in
    let told = sym c.in-None.is ∙ c.in_ok-bucket_length.ensures in
    let count = c.bucket_count-number-end.ensures.is in
    let inside = c.loop-number-test.true in
    sym (hash_told heap words c.args.addr _ (sym c.is_kind.ensures ∙ c.if-not-is_kind.false)
    (both_first _ _ (all_fail (keeps_bucket heap words c.args.addr) c.loop-number.number (bucket_count heap c.args.addr) (omega (arith, inside, count)) (told_none _ _ told))))

pub loop-number-preserved : goal.loop-number-preserved
loop-number-preserved c =
    let heap = view_in c.args.heap.now in
    let words : ℕ = length c.args.heap.now / 8 in
    let told = sym c.in-Some.is ∙ c.in_ok-bucket_length.ensures in
    let more = sum_more (λ number. length (bucket heap words c.args.addr number)) c.loop-number.number in
    let sum = c.saturating_add-entries.ensures in
    let count = told_count _ _ _ told in
    let before = c.loop-number.invariant.counted in
    record {
      right = all_more (keeps_bucket heap words c.args.addr) c.loop-number.number c.loop-number.invariant.right (told_right _ _ _ told);
      counted = omega (arith, more, sum, count, before);
    }

pub returns : goal.returns
returns c =
    let heap = view_in c.args.heap.now in
    let words : ℕ = length c.args.heap.now / 8 in
    let addr = c.args.addr in
    let count = c.bucket_count-number-end.ensures.is in
    let few = c.bucket_count-number-end.ensures.few in
    let end = c.loop-number-test.false in
    let all : c.loop-number.number ≡ bucket_count heap addr = omega (arith, count, end) in
    let right = sym (ap (λ (n : ℕ). list_all (keeps_bucket heap words addr) (range_with_len 0 n)) all) ∙ c.loop-number.invariant.right in
    let small = few_entries heap words addr c.loop-number.number (few_words c.args.heap.now c.requires.region) (omega (arith, all, count, few)) in
    let counted = c.loop-number.invariant.counted in
    let exact : c.loop-number.entries ≡ sum_by (λ number. length (bucket heap words addr number)) (range_with_len 0 c.loop-number.number) = omega (arith, counted, small) in
    let entries = exact ∙ ap (λ (n : ℕ). sum_by (λ number. length (bucket heap words addr number)) (range_with_len 0 n)) all in
    ap (λ (n : ℕ). n == c.loop-number.entries) c.word.ensures
    ∙ ap (λ (n : ℕ). word_of (heap.blocks addr) 2 == n) entries
    ∙ sym (hash_told heap words addr _ (sym c.is_kind.ensures ∙ c.if-not-is_kind.false)
    (ap (λ (t : Bool). t && (word_of (heap.blocks addr) 2 == entry_count heap words addr)) right))
