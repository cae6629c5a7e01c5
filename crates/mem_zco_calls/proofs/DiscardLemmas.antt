-- The steps in which an object goes, or is cut to its part.
use Rattle.std.proofs.Common.{◌≡◌, ℕ, List, [], ◌∷◌, Some, ap, sym, ◌∙◌, refl, subst, arith}
use Rattle.sdr_model.specs.Dry.{StepsDry}
use Rattle.sdr_model.specs.Gone.{gone_blocks, gone_things, without_things}
use Rattle.sdr_model.specs.ObjectSteps.{destroy_blocks, with_object}
use Rattle.sdr_model.specs.PartSteps.{outside_part, stripped}
use Rattle.sdr_model.specs.Queue.{with_served}
use Rattle.sdr_model.specs.RowMoves.{destroyed_blocks, stripped_blocks}
use Rattle.sdr_model.specs.Rows.{ByRow}
use Rattle.sdr_model.specs.Steps.{Does, On, Outcome, gave, without_thing}
use Rattle.sdr_model.specs.World.{World}
use Rattle.sdr_model.specs.Zco.{object_at}
use Rattle.sdr_model.specs.declared.answer.Reply.TheVariants as replies
use Rattle.sdr_model.specs.declared.call.Call.{Call}
use Rattle.sdr_model.specs.declared.call.Call.TheVariants as calls
use Rattle.sdr_model.specs.declared.zco.ZcoObject.{ZcoObject}
use Rattle.sdr_model.proofs.DryLemmas.{AreInOrder-gave, blocks_taken-gave}

-- what a call that gives blocks back comes to
abbrev Discarded : World → World → List ℕ → Outcome
Discarded w w' blocks = record { moves = gave blocks; after = record w' { taken = w.taken }; reply = replies.Done }

-- it takes its step, where it leaves the count of blocks
discards : (w w' next : World) (blocks : List ℕ) (call : Call) → next.taken ≡ w.taken → w' ≡ record next { shown = [] }
    → (Does (Discarded w w' blocks) (gave blocks) next replies.Done → ByRow w (Discarded w w' blocks) call)
    → StepsDry w call (gave blocks) w' replies.Done
discards w w' next blocks call kept put row = record {
  step =
      row (
        refl,
        ap (λ (v : World). record v { taken = w.taken }) put ∙ ap (λ n. record next { shown = []; taken = n }) (sym kept),
        refl,
      );
  in_order = AreInOrder-gave w.taken blocks;
  counted = omega (arith, ap (λ (v : World). v.taken) put, kept, blocks_taken-gave blocks);
}

-- things that go leave the count of blocks
taken_left : (w : World) (addrs : List ℕ) → (without_things w addrs).taken ≡ w.taken
taken_left w [] = refl
taken_left w (addr ∷ addrs) = taken_left (without_thing w addr) addrs

module _ (w w' : World) (addr : ℕ) (z : ZcoObject) (is : Some z ≡ object_at w addr) where
  -- the world without the object and what goes with it, and the one where it is cut to its part
  abbrev pub destroyed : World
  destroyed = without_thing (without_things w (gone_things w z.extents z.extents)) addr

  abbrev pub cut_down : World
  cut_down = with_object (without_things w (gone_things w (outside_part z) (outside_part z))) addr (stripped z)

  pub destroys : w' ≡ record (with_served destroyed z.account) { shown = [] }
      → StepsDry w (calls.Destroy addr) (gave (destroyed_blocks w addr (object_at w addr))) w' replies.Done
  destroys put =
      discards w w' (with_served destroyed z.account) (destroyed_blocks w addr (object_at w addr)) (calls.Destroy addr)
      (taken_left w (gone_things w z.extents z.extents)) put
      (subst (λ o. let out = Discarded w w' (destroyed_blocks w addr o) in
      Does out (gave (destroyed_blocks w addr o)) (with_served destroyed z.account) replies.Done
      → On w out addr o (λ z. Does out (gave (destroy_blocks w addr z))
      (with_served (without_thing (without_things w (gone_things w z.extents z.extents)) addr) z.account) replies.Done)) is
      (λ did. did))

  pub strips : w' ≡ record (with_served cut_down z.account) { shown = [] }
      → StepsDry w (calls.Strip addr) (gave (stripped_blocks w (object_at w addr))) w' replies.Done
  strips put =
      discards w w' (with_served cut_down z.account) (stripped_blocks w (object_at w addr)) (calls.Strip addr)
      (taken_left w (gone_things w (outside_part z) (outside_part z))) put
      (subst (λ o. let moves = Discarded w w' (stripped_blocks w o) in
      Does moves (gave (stripped_blocks w o)) (with_served cut_down z.account) replies.Done
      → On w moves addr o (λ z. let out = outside_part z in Does moves (gave (gone_blocks w out out))
      (with_served (with_object (without_things w (gone_things w out out)) addr (stripped z)) z.account) replies.Done)) is
      (λ did. did))
