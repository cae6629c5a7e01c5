use Rattle.std.proofs.Common.{◌≡◌, ◌+◌, ◌++◌, ◌∙◌, ◌==◌, ℕ, List, [], ap, sym, append_assoc, take, drop, get_or, refl, arith, length-take, unwrap_or}
use Rattle.std.proofs.lemmas.List.Sums.{sum_by_more}
use Rattle.std.specs.Prelude.{if◌then◌else◌}
use Rattle.sdr_model.specs.Gone.{gone_things, source_blocks}
use Rattle.sdr_model.specs.Zco.{naming, source_at, uses_of}
use Rattle.sdr_model.specs.declared.zco.Extent.{Extent}
use Rattle.mem_zco_calls.proofs.GoneLemmas.{gone_things-step, naming-few, naming-more}
use Rattle.mem_zco_calls.proofs.gone.gone_things.Goals as goal

pub loop-extent-preserved : goal.loop-extent-preserved
loop-extent-preserved c =
    let w = c.args.world.now.now in
    let all = c.args.extents.now in
    let i = c.loop-extent.extent-index in
    let d : Extent = record { block = 0; source = 0; offset = 0; length = 0 } in
    let e : Extent = get_or all i d in
    let rest = gone_things w all (drop (i + 1) all) in
    let one = λ (s : ℕ). if e.source == s then 1 else 0 in
    let more : (s : ℕ) → naming s (take i all) + one s ≡ naming s (take (i + 1) all) =
    λ s. sym (sum_by_more (λ (x : Extent). if x.source == s then 1 else 0) all i d c.loop-extent-test.true) in
    let counted : c.in_ok-count.count ≡ naming e.source (take (i + 1) all) =
    c.in_ok-count.ensures.count ∙ ap (λ n. n + 1) (c.loop-extent.invariant.seen e.source)
    ∙ naming-more e.source all i d c.loop-extent-test.true refl in
    let uses : c.count_at-all.result ≡ uses_of w e.source =
    c.count_at-all.ensures ∙ ap (λ o. unwrap_or o 0) (c.in_ok-uses.ensures i d c.loop-extent-test.true) in
    let goes = λ (n : ℕ). if n == uses_of w e.source then source_blocks e.source (source_at w e.source) else [] in
    record {
      seen = λ s. c.in_ok-count.ensures.counted s ∙ ap (λ n. n + one s) (c.loop-extent.invariant.seen s) ∙ more s;
      gone = ap (λ (g : List ℕ). g ++ rest) (c.in_ok-add_if_last.ensures
          ∙ ap (λ all. c.loop-extent.gone ++ (if c.in_ok-count.count == all then source_blocks e.source (source_at w e.source) else [])) uses)
          ∙ append_assoc c.loop-extent.gone (goes c.in_ok-count.count) rest
          ∙ ap (λ (t : List ℕ). c.loop-extent.gone ++ t)
          (ap (λ n. goes n ++ rest) counted
          ∙ sym (gone_things-step w all i d c.loop-extent-test.true (c.requires.used e.source)))
          ∙ c.loop-extent.invariant.gone;
    }

pub count_one-requires : goal.count_one-requires
count_one-requires c =
    let all = c.args.extents.now in
    let i = c.loop-extent.extent-index in
    let d : Extent = record { block = 0; source = 0; offset = 0; length = 0 } in
    let e : Extent = get_or all i d in
    omega (arith, c.loop-extent.invariant.seen e.source, naming-few e.source (take i all), length-take i all)
