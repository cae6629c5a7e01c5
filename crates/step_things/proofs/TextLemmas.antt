-- Strings in blocks.
use Rattle.std.proofs.Common.{◌≡◌, ◌∙◌, ℕ, List, [], Option, None, Some, refl, ap, subst}
use Rattle.std.specs.Prelude.{IfSome}
use Rattle.step_things.proofs.KindLemmas.{own_in_use, thing_is_at}
use Rattle.sdr_stands.proofs.ChangeLemmas.{apart}
use Rattle.sdr_stands.specs.Standing.{HeapStandsFor}
use Rattle.sdr_base.specs.Blocks.{IsKind}
use Rattle.sdr_base.specs.Objects.{Heap}
use Rattle.sdr_base.specs.Strings.{KeepsString, string_block}
use Rattle.sdr_base.specs.declared.kind.Kind.TheVariants as kinds
use Rattle.sdr_base.proofs.StandingLemmas.{found}
use Rattle.sdr_model.specs.Things.{own_block}
use Rattle.sdr_model.specs.Valid.{IsValid, IsValidThing}
use Rattle.sdr_model.specs.World.{World, as_text, thing_at}
use Rattle.sdr_model.specs.declared.things.Thing.{Thing}
use Rattle.sdr_model.specs.declared.things.Thing.TheVariants as things

-- a string, and its block
pub record IsTextAt (heap : Heap) (w : World) (addr : ℕ) : Type 0 where
  pub text : List ℕ
  pub there : thing_at w addr ≡ Some (things.Text text)
  pub keeps : KeepsString (heap.blocks addr) text

pub text_stands : (heap : Heap) (w : World) (addr : ℕ) (text : List ℕ) → HeapStandsFor heap w → IsValid w
    → thing_at w addr ≡ Some (things.Text text)
    → IsTextAt heap w addr
text_stands heap w addr text s valid there =
    let a = apart addr (things.Text text) s there in
    record {
      text = text;
      there = there;
      keeps = record {
        block = found heap.blocks addr (string_block text) [] a.rest a.stands;
        short = subst (λ (o : Option Thing). IfSome o IsValidThing) there (valid.things addr);
      };
    }

own_text : (addr : ℕ) (thing : Thing) → (own_block addr thing).kind ≡ kinds.Text → (text : List ℕ) × (thing ≡ things.Text text)
own_text addr (things.Text text) is = (text, refl)
own_text addr thing is = absurd cc

-- a block in use of the kind of strings is a string's
pub text_is_at : (heap : Heap) (w : World) (addr : ℕ) → HeapStandsFor heap w → IsValid w → IsKind (heap.blocks addr) kinds.Text
    → IsTextAt heap w addr
text_is_at heap w addr s valid kind =
    let t = thing_is_at heap w addr kinds.Text s valid refl kind in
    let text = own_text addr t.thing t.kind_is in
    text_stands heap w addr text.0 s valid (t.there ∙ ap Some text.1)

-- and where there is none, no string is
pub no_text : (heap : Heap) (w : World) (addr : ℕ) → HeapStandsFor heap w → IsValid w → ¬ IsKind (heap.blocks addr) kinds.Text
    → as_text (thing_at w addr) ≡ None
no_text heap w addr s valid other = by (thing_at w addr) refl
  where
    by : (o : Option Thing) → thing_at w addr ≡ o → as_text o ≡ None
    by (Some (things.Text text)) at = absurd (other (own_in_use heap w addr (things.Text text) s valid at))
    by None at = refl
    by (Some thing) at = refl
