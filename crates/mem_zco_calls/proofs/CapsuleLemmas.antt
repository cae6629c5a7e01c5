-- Objects that get a header or trailer.
use Rattle.std.proofs.Common.{◌≡◌, ◌≤◌, ◌∷◌, [], ℕ, List, Some, false, ◌||◌, ap, sym, ◌∙◌, refl, subst, length}
use Rattle.std.proofs.lemmas.Bool.{le-ltb}
use Rattle.std.specs.Prelude.{MatchBool, nat_lt}
use Rattle.sdr_base.specs.declared.kind.Space.TheVariants as spaces
use Rattle.sdr_base.specs.declared.moves.Move.TheVariants.{Took}
use Rattle.sdr_base.specs.declared.refusal.Refusal.TheVariants as refusals
use Rattle.sdr_model.specs.Amounts.{in_space}
use Rattle.sdr_model.specs.Charges.{capsule_bytes}
use Rattle.sdr_model.specs.Dry.{dry_moves, next_addr}
use Rattle.sdr_model.specs.Limits.{is_no_capsule, longest_capsule}
use Rattle.sdr_model.specs.Rows.{ByRow}
use Rattle.sdr_model.specs.Steps.{On, Outcome, Refuses}
use Rattle.sdr_model.specs.Things.{capsule_need}
use Rattle.sdr_model.specs.World.{World}
use Rattle.sdr_model.specs.Zco.{object_at}
use Rattle.sdr_model.specs.declared.answer.Reply.TheVariants as replies
use Rattle.sdr_model.specs.declared.zco.ZcoObject.{ZcoObject}
use Rattle.mem_parts.specs.Sides.{capsule_call, component_on}
use Rattle.mem_parts.specs.declared.component.Component.{Component}
use Rattle.mem_parts.specs.declared.component.Side.{Side}
use Rattle.mem_parts.specs.declared.component.Side.TheVariants as sides
use Rattle.mem_zco_calls.proofs.ObjectCallLemmas.{ChargesComponent}

-- so many bytes may be a header or trailer
pub some_capsule : (bytes : ℕ) → 1 ≤ bytes → bytes ≤ longest_capsule → is_no_capsule bytes ≡ false
some_capsule bytes least most =
    ap (λ b. b || nat_lt longest_capsule bytes) (le-ltb bytes 1 least) ∙ le-ltb longest_capsule bytes most

module _ (side : Side) (w : World) (k number : ℕ) (text : List ℕ) where
  -- the header or trailer in a block
  abbrev pub capsule_in : ℕ → Component
  capsule_in block = component_on side (record { block = block; text = text })

  -- the row of the call that adds it, where the text may be one
  pub capsule-row : (z : ZcoObject) → object_at w k ≡ Some z → is_no_capsule (length text) ≡ false → (o : Outcome)
      → ChargesComponent w k number (capsule_need (length text)) (in_space spaces.Heap (capsule_bytes (length text))) z capsule_in o
      → ByRow w o (capsule_call side k number text)
  capsule-row z there some o charges = by side charges
    where
      goes : (P : ZcoObject → Type 0) → P z → On w o k (object_at w k) (λ z.
          MatchBool (is_no_capsule (length text)) (Refuses w o (refusals.BadLength (length text) longest_capsule)) (P z))
      goes P p =
          subst (λ named. On w o k named (λ z.
          MatchBool (is_no_capsule (length text)) (Refuses w o (refusals.BadLength (length text) longest_capsule)) (P z))) (sym there)
          (subst (λ b. MatchBool b (Refuses w o (refusals.BadLength (length text) longest_capsule)) (P z)) (sym some) p)

      Charged : Side → ZcoObject → Type 0
      Charged side z =
          ChargesComponent w k number (capsule_need (length text)) (in_space spaces.Heap (capsule_bytes (length text))) z
          (λ block. component_on side (record { block = block; text = text })) o

      by : (side : Side) → Charged side z → ByRow w o (capsule_call side k number text)
      by sides.Front = goes (Charged sides.Front)
      by sides.Back = goes (Charged sides.Back)

  -- its one move
  pub capsule-moves : dry_moves w (capsule_call side k number text) replies.Done
      ≡ Took (capsule_need (length text)) (next_addr w.taken) ∷ []
  capsule-moves = by side
    where
      by : (side : Side) → dry_moves w (capsule_call side k number text) replies.Done
          ≡ Took (capsule_need (length text)) (next_addr w.taken) ∷ []
      by sides.Front = refl
      by sides.Back = refl
