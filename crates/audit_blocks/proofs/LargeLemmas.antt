-- One large block more is walked over.
use Rattle.std.proofs.Common.{◌≡◌, ◌≢◌, ◌≤◌, ◌<◌, ◌+◌, ◌-◌, ◌*◌, ◌/◌, ◌%◌, ◌==◌, ◌&&◌, ◌||◌, ℕ, Bool, List, [], ◌∷◌, ◌++◌, Option, None, Some, cond, not, true, false, length, set, arith, ap, ◌∙◌, refl, sym, subst}
use Rattle.std.specs.Prelude.{nat_le}
use Rattle.std.specs.Option.{option_or}
use Rattle.std.proofs.lemmas.Bool.{and_parts, eq-eqb, leb-true, ne_eqb}
use Rattle.sdr_base.specs.LargePool.{extent_of}
use Rattle.sdr_base.specs.Pools.{PoolBlock}
use Rattle.sdr_base.specs.Rules.{words_for}
use Rattle.sdr_base.specs.Stored.{leader_kind, leader_length, leader_words}
use Rattle.sdr_base.specs.declared.control.TheConstants.{HIGH, LOW, START}
use Rattle.audit_blocks.proofs.EdgeLemmas.{in_order}
use Rattle.audit_blocks.proofs.FollowLemmas.{large_ends, large_rises, large_then, small_ends}
use Rattle.audit_blocks.proofs.WalkLemmas.{begun_then, option_or-none, spots_then, wrong_then}
use Rattle.audit_blocks.specs.Auditing.{edges_of}
use Rattle.audit_blocks.specs.Control.{ControlIsRight, control_word}
use Rattle.audit_blocks.specs.Found.{with_found}
use Rattle.audit_blocks.specs.Labels.{IsLabel, has_enough, is_led, label_empty, label_spot}
use Rattle.audit_blocks.specs.Spots.{AreSpots, begun_at, begun_in}
use Rattle.audit_blocks.specs.Walk.{LargeFollow, first_wrong, free_edge, is_empty, is_large_at, large_at, large_holds, touching_after}
use Rattle.audit_blocks.specs.Walked.{LargeWalked, SmallWalked, is_last_free}
use Rattle.audit_blocks.specs.declared.control.Edges.{Edges}
use Rattle.audit_blocks.specs.declared.findings.Findings.{Findings}
use Rattle.audit_blocks.specs.declared.label.Label.{Label}
use Rattle.audit_blocks.specs.declared.spot.Spot.{Spot}
use Rattle.audit_blocks.specs.declared.spot.Spot.TheVariants as spots

or_assoc : {X : Type 0} (a b c : Option X) → option_or (option_or a b) c ≡ option_or a (option_or b c)
or_assoc None b c = refl
or_assoc (Some x) b c = refl

-- what is told at a place where something holds
told_where : (t : Bool) (at place : ℕ) → at ≡ place → cond t (Some at) None ≡ cond (not t) None (Some place)
told_where true at place is = ap Some is
told_where false at place is = refl

-- the last one is free where the block that came is
last_then : (free : Bool) (done : List PoolBlock) (block : PoolBlock) → is_last_free free (done ++ (block ∷ [])) ≡ not block.used
last_then free [] block = refl
last_then free (x ∷ done) block = last_then (not x.used) done block

passed : (t : Bool) (p : ℕ) (more more' : Option ℕ) (found : Option ℕ) → more' ≡ option_or more found → cond t (Some p) more' ≡ option_or (cond t (Some p) more) found
passed true p more more' found is = refl
passed false p more more' found is = is

-- two free ones touch among some blocks and another
touching_then : (free : Bool) (done : List PoolBlock) (block : PoolBlock) (place : ℕ) → block.addr - 16 ≡ place →
    touching_after free (done ++ (block ∷ [])) ≡ with_found (touching_after free done) (not (is_last_free free done && not block.used)) place
touching_then free [] block place at = told_where (free && not block.used) (block.addr - 16) place at
touching_then free (x ∷ done) block place at =
    passed (free && not x.used) (x.addr - 16) (touching_after (not x.used) done) (touching_after (not x.used) (done ++ (block ∷ [])))
    (cond (not (is_last_free (not x.used) done && not block.used)) None (Some place)) (touching_then (not x.used) done block place at)

edge_free : (used : Bool) (at place : ℕ) → at ≡ place → cond used None (Some at) ≡ cond (not (not used)) None (Some place)
edge_free true at place is = refl
edge_free false at place is = ap Some is

-- a free one stands at high, among some blocks that come up to a place, and the one there
edge_then : (bytes : List ℕ) (high : ℕ) (done : List PoolBlock) (place : ℕ) → LargeFollow bytes high done place →
    free_edge (done ++ (large_at bytes place ∷ [])) ≡ with_found (free_edge done) (not (place == high && not (large_at bytes place).used)) place
edge_then bytes high [] place at =
    edge_free (large_at bytes place).used (place + 16 - 16) place (omega arith)
    ∙ ap (λ (t : Bool). cond (not (t && not (large_at bytes place).used)) None (Some place)) (sym (eq-eqb place high (sym at)))
edge_then bytes high (x ∷ done) place (here, x_is, more) =
    let later = large_rises bytes done (high + extent_of x.words) place more in
    sym (ap (λ (t : Bool). with_found (free_edge (x ∷ done)) (not (t && not (large_at bytes place).used)) place) (ne_eqb place high (λ e. omega (arith, e, later)))
    ∙ option_or-none (free_edge (x ∷ done)))

module _ (bytes : List ℕ) (place : ℕ) (label : Label) (is : IsLabel bytes place label) where
  abbrev block : PoolBlock
  block = large_at bytes place

  back : place + 16 - 16 ≡ place
  back = omega arith

  fits : has_enough label ≡ large_holds bytes block
  fits =
      (λ i. nat_le (words_for (is.length i)) (is.words i))
      ∙ ap (λ (n : ℕ). nat_le (words_for (leader_length n bytes)) (leader_words place bytes)) (sym back)

  empty : label_empty label ≡ is_empty bytes 16 block
  empty =
      (λ i. not (is.kind i == 0) || is.length i == 0)
      ∙ ap (λ (n : ℕ). not (leader_kind place bytes == 0) || leader_length n bytes == 0) (sym back)

  spot : label_spot label ≡ cond block.used spots.Used spots.Free
  spot = ap (λ (kind : ℕ). cond (not (kind == 0)) spots.Used spots.Free) is.kind

  led : is_led label ≡ block.used
  led = ap (λ (kind : ℕ). not (kind == 0)) is.kind

  module _ (small done : List PoolBlock) (none_small : begun_in 8 small place ≡ None) (none : begun_in 16 done place ≡ None) where
    begun_here : begun_at small (done ++ (block ∷ [])) place ≡ Some block
    begun_here =
        ap (λ (o : Option PoolBlock). option_or o (begun_in 16 (done ++ (block ∷ [])) place)) none_small
        ∙ begun_then 16 done block place
        ∙ ap (λ (o : Option PoolBlock). option_or o (cond (block.addr == place + 16) (Some block) None)) none
        ∙ ap (λ (t : Bool). cond t (Some block) None) (eq-eqb (place + 16) (place + 16) refl)

    begun_other : (other : ℕ) → other ≢ place → begun_at small (done ++ (block ∷ [])) other ≡ begun_at small done other
    begun_other other apart =
        ap (λ (o : Option PoolBlock). option_or (begun_in 8 small other) o)
        (begun_then 16 done block other
        ∙ ap (λ (t : Bool). option_or (begun_in 16 done other) (cond t (Some block) None)) (ne_eqb (place + 16) (other + 16) (λ e. apart (omega (arith, e))))
        ∙ option_or-none (begun_in 16 done other))

  wrong_more : (right : PoolBlock → Bool) (found found' before : Option ℕ) (done : List PoolBlock) (b : Bool) → b ≡ right block →
      found ≡ option_or before (first_wrong right 16 done) → found' ≡ with_found found b place →
      found' ≡ option_or before (first_wrong right 16 (done ++ (block ∷ [])))
  wrong_more right found found' before done b same was is' =
      is'
      ∙ ap (λ (o : Option ℕ). with_found o b place) was
      ∙ or_assoc before (first_wrong right 16 done) (cond b None (Some place))
      ∙ ap (λ (t : Bool). option_or before (with_found (first_wrong right 16 done) t place)) same
      ∙ ap (option_or before) (sym (wrong_then right 16 place done block refl))

  -- the walk goes on behind a large block
  pub large_walked : {found found' : Findings} {told : List Spot} {here : Spot} {edges : Edges} → ControlIsRight bytes → edges ≡ edges_of bytes →
      LargeWalked bytes place found told → is_large_at bytes place ≡ true →
      {fit empty_is used : Bool} → fit ≡ has_enough label → empty_is ≡ label_empty label → used ≡ is_led label →
      found'.unfit ≡ with_found found.unfit fit place → found'.full ≡ with_found found.full empty_is place →
      found'.touching ≡ with_found found.touching (not (found.after_free && not used)) place →
      found'.edge ≡ with_found found.edge (not (place == edges.high && not used)) place →
      found'.after_free ≡ not used → here ≡ label_spot label →
      LargeWalked bytes (place + 8 * (4 + label.words)) found' (set told (place / 8) here)
  large_walked {found} {found'} {told} {here} {edges} right edges_is w large {fit} {empty_is} {used} fit_is is_empty_is used_is unfit full touching edge free spot_is =
      let o = in_order bytes right in
      let ends = leb-true _ _ (and_parts _ _ (and_parts _ _ large).0).1 in
      let used_block : used ≡ block.used = used_is ∙ led in
      record {
        small = w.small;
        below = w.below;
        done = w.done ++ (block ∷ []);
        follow =
            subst (λ (n : ℕ). LargeFollow bytes (control_word bytes HIGH) (w.done ++ (block ∷ [])) (place + 8 * (4 + n))) (sym is.words)
            (large_then bytes w.done (control_word bytes HIGH) place w.follow large);
        whole = let before = w.whole in omega (arith, before);
        within = subst (λ (n : ℕ). place + 8 * (4 + n) ≤ length bytes) (sym is.words) ends;
        findings = record {
          unfit = wrong_more (large_holds bytes) found.unfit found'.unfit _ w.done fit (fit_is ∙ fits) w.findings.unfit unfit;
          full = wrong_more (is_empty bytes 16) found.full found'.full _ w.done empty_is (is_empty_is ∙ empty) w.findings.full full;
          touching =
              touching
              ∙ (λ i. with_found (w.findings.touching i) (not (w.findings.after_free i && not (used_block i))) place)
              ∙ sym (touching_then false w.done block place back);
          edge =
              edge
              ∙ (λ i. with_found (w.findings.edge i) (not (place == (edges_is i).high && not (used_block i))) place)
              ∙ sym (edge_then bytes (control_word bytes HIGH) w.done place w.follow);
          after_free = free ∙ ap not used_block ∙ sym (last_then false w.done block);
        };
        spots =
            let low = o.high in
            let from = large_rises bytes w.done (control_word bytes HIGH) place w.follow in
            let none_small = small_ends bytes w.small (control_word bytes START) (control_word bytes LOW) place w.below (omega (arith, low, from)) in
            let none = large_ends bytes w.done (control_word bytes HIGH) place place w.follow (omega arith) in
            subst (λ (s : Spot). AreSpots w.small (w.done ++ (block ∷ [])) (set told (place / 8) s)) (sym (spot_is ∙ spot))
            (spots_then w.small w.done w.small (w.done ++ (block ∷ [])) block place told w.spots w.whole (begun_here w.small w.done none_small none)
            (begun_other w.small w.done none_small none));
      }

-- behind all small blocks and before any large one, what was found is the small ones'
pub large_begins : (bytes : List ℕ) {edges : Edges} {found : Findings} {told : List Spot} → ControlIsRight bytes → edges ≡ edges_of bytes →
    SmallWalked bytes (control_word bytes LOW) found told → LargeWalked bytes edges.high found told
large_begins bytes {edges} {found} {told} right is w =
    let o = in_order bytes right in
    subst (λ (e : Edges). LargeWalked bytes e.high found told) (sym is) (record {
      small = w.done;
      below = w.follow;
      done = [];
      follow = refl;
      whole = o.high_whole;
      within = o.end;
      findings = record {
        unfit = w.findings.unfit;
        full = w.findings.full;
        touching = w.findings.touching;
        edge = w.findings.edge;
        after_free = w.findings.after_free;
      };
      spots = w.spots;
    })
