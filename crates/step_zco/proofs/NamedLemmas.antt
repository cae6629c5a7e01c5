-- Which source names a raw object, where sources come and go.
use Rattle.std.proofs.Common.{◌≡◌, ◌≢◌, ℕ, ◌==◌, Bool, true, false, true≢false, cond, eq-eqb, Option, Some, None, refl, sym, ap, ◌∙◌, subst}
use Rattle.std.specs.Prelude.{IfSome}
use Rattle.std.proofs.lemmas.Bool.{eqb-true}
use Rattle.step_things.proofs.EntryLemmas.{source_there}
use Rattle.sdr_stands.specs.Ties.{Ties, or_null, ties_of}
use Rattle.sdr_base.specs.Blocks.{with_at}
use Rattle.sdr_base.specs.declared.account.Acct.{Acct}
use Rattle.law_steps.proofs.OutcomeFits.{unnamed_from}
use Rattle.sdr_model.specs.Valid.{FitTogether}
use Rattle.sdr_model.specs.World.{World, thing_at}
use Rattle.sdr_model.specs.Zco.{as_source, count_of, is_of_raw, names_raw, source_naming}
use Rattle.sdr_model.specs.declared.things.Thing.{Thing}
use Rattle.sdr_model.specs.declared.things.Thing.TheVariants as things
use Rattle.sdr_model.specs.declared.zco.ZcoSource.{ZcoSource}

-- a source of a raw object is the one that names it
pub named_at : (w : World) (raw addr : ℕ) (s : ZcoSource) → FitTogether w → thing_at w addr ≡ Some (things.Source s) →
    is_of_raw raw s.subject ≡ true → source_naming w raw ≡ Some addr
named_at w raw addr s fits there named = by (source_naming w raw) refl
  where
    by : (o : Option ℕ) → source_naming w raw ≡ o → source_naming w raw ≡ Some addr
    by None is = absurd (true≢false (sym named ∙ unnamed_from w raw is addr s (ap as_source there)))
    by (Some a) is =
        let n = source_there w raw a is in
        let same : a ≡ addr =
        subst (λ (o : Option Thing). IfSome o (λ t. names_raw raw (things.Source n.source) ≡ true → names_raw raw t ≡ true → a ≡ addr))
        there
        (subst (λ (o : Option Thing). IfSome o (λ t. IfSome (thing_at w addr)
        (λ u. names_raw raw t ≡ true → names_raw raw u ≡ true → a ≡ addr))) n.there (fits.alone raw a addr))
        n.named named in
        is ∙ ap (λ k. Some k) same

-- the sources of a raw object are the same in two worlds
pub record SameSources (w v : World) (raw : ℕ) : Type 0 where
  pub there : (a : ℕ) (s : ZcoSource) → thing_at w a ≡ Some (things.Source s) → is_of_raw raw s.subject ≡ true →
      thing_at v a ≡ Some (things.Source s)
  pub back : (a : ℕ) (s : ZcoSource) → thing_at v a ≡ Some (things.Source s) → is_of_raw raw s.subject ≡ true →
      thing_at w a ≡ Some (things.Source s)

-- so the same one names it
pub same_named : (w v : World) (raw : ℕ) → FitTogether w → FitTogether v → SameSources w v raw → source_naming v raw ≡ source_naming w raw
same_named w v raw fits fits' same = by (source_naming w raw) (source_naming v raw) refl refl
  where
    by : (o p : Option ℕ) → source_naming w raw ≡ o → source_naming v raw ≡ p → source_naming v raw
        ≡ source_naming w raw
    by (Some a) p is there =
        let n = source_there w raw a is in
        named_at v raw a n.source fits' (same.there a n.source n.there n.named) n.named ∙ sym is
    by None None is there = there ∙ sym is
    by None (Some a) is there =
        let n = source_there v raw a there in
        let here : source_naming w raw ≡ Some a = named_at w raw a n.source fits (same.back a n.source n.there n.named) n.named in
        let no : None ≡ Some a = sym is ∙ here in cc

-- things tied as they were, but that this names a raw object, 0 for none
abbrev pub naming_of : Ties → ℕ → ℕ → Ties
naming_of ties raw named = record { named_by = with_at ties.named_by raw named; counts = ties.counts }

-- what names a raw object, at that one and at others
named_but : (ties : Ties) (raw named q : ℕ) (other : ℕ) → (q ≡ raw → other ≡ named) → (q ≢ raw → other ≡ ties.named_by q) →
    other ≡ with_at ties.named_by raw named q
unfolding with_at
named_but ties raw named q other here apart = by (q == raw) refl
  where
    by : (b : Bool) → (q == raw) ≡ b → other ≡ cond b named (ties.named_by q)
    by true is = here (eqb-true q raw is)
    by false is = apart (λ same. true≢false (sym (eq-eqb q raw same) ∙ is))

-- the things are tied so where one raw object is named otherwise
pub ties_but : (w v : World) (raw named : ℕ) → or_null (source_naming v raw) ≡ named →
    ((q : ℕ) → q ≢ raw → source_naming v q ≡ source_naming w q) →
    ((source : ℕ) (acct : Acct) → count_of v source acct ≡ count_of w source acct) →
    ties_of v ≡ naming_of (ties_of w) raw named
ties_but w v raw named here apart counts = λ i. record {
  named_by = λ q. named_but (ties_of w) raw named q (or_null (source_naming v q))
      (λ same. ap (λ r. or_null (source_naming v r)) same ∙ here)
      (λ other. ap or_null (apart q other)) i;
  counts = λ source acct. counts source acct i;
}
