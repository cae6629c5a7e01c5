-- One small block more is walked over.
use Rattle.std.proofs.Common.{◌≡◌, ◌≢◌, ◌≤◌, ◌<◌, ◌+◌, ◌-◌, ◌*◌, ◌/◌, ◌%◌, ◌==◌, ◌&&◌, ◌||◌, ℕ, Bool, List, [], ◌∷◌, ◌++◌, Option, None, Some, cond, not, true, length, set, arith, ap, ◌∙◌, refl, sym, subst}
use Rattle.std.specs.Prelude.{nat_le}
use Rattle.std.specs.Option.{option_or}
use Rattle.std.proofs.lemmas.Bool.{and_parts, eq-eqb, leb-true, ne_eqb}
use Rattle.sdr_base.specs.Pools.{PoolBlock}
use Rattle.sdr_base.specs.Rules.{words_for}
use Rattle.sdr_base.specs.Stored.{leader_kind, leader_length, leader_words}
use Rattle.sdr_base.specs.declared.control.TheConstants.{LOW, START}
use Rattle.audit_blocks.proofs.FollowLemmas.{small_ends, small_then}
use Rattle.audit_blocks.proofs.WalkLemmas.{begun_then, option_or-none, spots_then, wrong_then}
use Rattle.audit_blocks.specs.Auditing.{edges_of}
use Rattle.audit_blocks.specs.Control.{ControlIsRight, control_word}
use Rattle.audit_blocks.specs.declared.control.Edges.{Edges}
use Rattle.audit_blocks.proofs.EdgeLemmas.{in_order}
use Rattle.audit_blocks.specs.Found.{no_findings, with_found}
use Rattle.audit_blocks.specs.Labels.{IsLabel, fits_small, label_empty, label_spot}
use Rattle.audit_blocks.specs.Spots.{AreSpots, begun_at, begun_in}
use Rattle.audit_blocks.specs.Walk.{SmallFollow, first_wrong, is_empty, is_small_at, small_at, small_holds}
use Rattle.audit_blocks.specs.Walked.{SmallWalked}
use Rattle.audit_blocks.specs.declared.findings.Findings.{Findings}
use Rattle.audit_blocks.specs.declared.label.Label.{Label}
use Rattle.audit_blocks.specs.declared.spot.Spot.{Spot}
use Rattle.audit_blocks.specs.declared.spot.Spot.TheVariants as spots

module _ (bytes : List ℕ) (place : ℕ) (label : Label) (is : IsLabel bytes place label) where
  abbrev block : PoolBlock
  block = small_at bytes place

  back : place + 8 - 8 ≡ place
  back = omega arith

  abbrev fits_by : ℕ → ℕ → ℕ → Bool
  fits_by kind words count = nat_le (words_for count) words && (not (not (kind == 0)) || words_for count == words)

  fits : fits_small label ≡ small_holds bytes block
  fits =
      (λ i. fits_by (is.kind i) (is.words i) (is.length i))
      ∙ ap (λ (n : ℕ). fits_by (leader_kind place bytes) (leader_words place bytes) (leader_length n bytes)) (sym back)

  empty : label_empty label ≡ is_empty bytes 8 block
  empty =
      (λ i. not (is.kind i == 0) || is.length i == 0)
      ∙ ap (λ (n : ℕ). not (leader_kind place bytes == 0) || leader_length n bytes == 0) (sym back)

  spot : label_spot label ≡ cond block.used spots.Used spots.Free
  spot = ap (λ (kind : ℕ). cond (not (kind == 0)) spots.Used spots.Free) is.kind

  module _ (done : List PoolBlock) (follow : (other : ℕ) → place ≤ other → begun_in 8 done other ≡ None) where
    none : begun_in 8 done place ≡ None
    none = follow place (omega arith)

    begun_here : begun_at (done ++ (block ∷ [])) [] place ≡ Some block
    begun_here =
        option_or-none (begun_in 8 (done ++ (block ∷ [])) place)
        ∙ begun_then 8 done block place
        ∙ ap (λ (o : Option PoolBlock). option_or o (cond (block.addr == place + 8) (Some block) None)) none
        ∙ ap (λ (t : Bool). cond t (Some block) None) (eq-eqb (place + 8) (place + 8) refl)

    begun_other : (other : ℕ) → other ≢ place → begun_at (done ++ (block ∷ [])) [] other ≡ begun_at done [] other
    begun_other other apart =
        ap (λ (o : Option PoolBlock). option_or o None)
        (begun_then 8 done block other
        ∙ ap (λ (t : Bool). option_or (begun_in 8 done other) (cond t (Some block) None)) (ne_eqb (place + 8) (other + 8) (λ e. apart (omega (arith, e))))
        ∙ option_or-none (begun_in 8 done other))

  wrong_more : (right : PoolBlock → Bool) (found found' : Option ℕ) (done : List PoolBlock) (b : Bool) → b ≡ right block →
      found ≡ option_or (first_wrong right 8 done) None → found' ≡ with_found found b place →
      found' ≡ option_or (first_wrong right 8 (done ++ (block ∷ []))) None
  wrong_more right found found' done b same before is' =
      is'
      ∙ ap (λ (o : Option ℕ). with_found o b place) (before ∙ option_or-none (first_wrong right 8 done))
      ∙ ap (λ (t : Bool). with_found (first_wrong right 8 done) t place) same
      ∙ sym (wrong_then right 8 place done block refl)
      ∙ sym (option_or-none (first_wrong right 8 (done ++ (block ∷ []))))

  -- the walk goes on behind a small block
  pub small_walked : {found found' : Findings} {told : List Spot} {here : Spot} → SmallWalked bytes place found told → is_small_at bytes place ≡ true →
      {fit empty_is : Bool} → fit ≡ fits_small label → empty_is ≡ label_empty label →
      found'.unfit ≡ with_found found.unfit fit place → found'.full ≡ with_found found.full empty_is place →
      found'.touching ≡ found.touching → found'.edge ≡ found.edge → found'.after_free ≡ found.after_free → here ≡ label_spot label →
      SmallWalked bytes (place + 8 * (1 + label.words)) found' (set told (place / 8) here)
  small_walked {found} {found'} {told} {here} w small {fit} {empty_is} fit_is is_empty_is unfit full touching edge free spot_is =
      let ends = leb-true _ _ (and_parts _ _ small).1 in
      record {
        done = w.done ++ (block ∷ []);
        follow =
            subst (λ (n : ℕ). SmallFollow bytes (control_word bytes START) (w.done ++ (block ∷ [])) (place + 8 * (1 + n))) (sym is.words)
            (small_then bytes w.done (control_word bytes START) place w.follow small);
        whole = let before = w.whole in omega (arith, before);
        within = subst (λ (n : ℕ). place + 8 * (1 + n) ≤ control_word bytes LOW) (sym is.words) ends;
        findings = record {
          unfit = wrong_more (small_holds bytes) found.unfit found'.unfit w.done fit (fit_is ∙ fits) w.findings.unfit unfit;
          full = wrong_more (is_empty bytes 8) found.full found'.full w.done empty_is (is_empty_is ∙ empty) w.findings.full full;
          touching = touching ∙ w.findings.touching;
          edge = edge ∙ w.findings.edge;
          after_free = free ∙ w.findings.after_free;
        };
        spots =
            let none : (other : ℕ) → place ≤ other → begun_in 8 w.done other ≡ None = λ other behind. small_ends bytes w.done (control_word bytes START) place other w.follow behind in
            subst (λ (s : Spot). AreSpots (w.done ++ (block ∷ [])) [] (set told (place / 8) s)) (sym (spot_is ∙ spot))
            (spots_then w.done [] (w.done ++ (block ∷ [])) [] block place told w.spots w.whole (begun_here w.done none) (begun_other w.done none));
      }

-- where small blocks don't end yet, there is a leader more
pub small_more : (bytes : List ℕ) (place : ℕ) {edges : Edges} → ControlIsRight bytes → edges ≡ edges_of bytes → place % 8 ≡ 0 → place < edges.low →
    place + 8 ≤ length bytes
small_more bytes place {edges} right is whole more =
    let o = in_order bytes right in
    let low : edges.low ≡ control_word bytes LOW = ap (λ (e : Edges). e.low) is in
    let low_whole = o.low_whole in
    let high = o.high in
    let end = o.end in
    omega (arith, low, low_whole, high, end, whole, more)

-- before any small block nothing is found
pub small_begins : (bytes : List ℕ) {edges : Edges} {found : Findings} {told : List Spot} → ControlIsRight bytes → edges ≡ edges_of bytes → found ≡ no_findings →
    AreSpots [] [] told → SmallWalked bytes edges.start found told
small_begins bytes {edges} {found} {told} right is none clear =
    let o = in_order bytes right in
    subst (λ (e : Edges). SmallWalked bytes e.start found told) (sym is)
    (subst (λ (f : Findings). SmallWalked bytes (control_word bytes START) f told) (sym none) (record {
      done = [];
      follow = refl;
      whole = o.start_whole;
      within = o.low;
      findings = record { unfit = refl; full = refl; touching = refl; edge = refl; after_free = refl };
      spots = clear;
    }))
