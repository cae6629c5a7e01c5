-- Why an item doesn't go, and which of its blocks were given back then.
use Rattle.std.proofs.Common.{◌≡◌, ℕ, ◌-◌, List, [], ◌∷◌, ◌++◌, refl, sym, ◌∙◌, subst, arith, append-nil}
use Rattle.sdr_base.specs.Making.{GaveSome, Made, gave}
use Rattle.sdr_base.specs.Objects.{Heap, OnlyUnmoved}
use Rattle.sdr_base.specs.Words.{HasWord, layout}
use Rattle.sdr_base.specs.declared.kind.Kind.TheVariants as kinds
use Rattle.sdr_base.specs.declared.moves.Move.TheVariants.{Gave}
use Rattle.sdr_base.specs.declared.refusal.Refusal.TheVariants as refusals
use Rattle.sdr_base.specs.declared.stop.Stop.{Stop}
use Rattle.sdr_base.specs.declared.stop.Stop.TheVariants.{Refused, DiskFault, MediaFault, Failed}
use Rattle.sdr_base.specs.Entries.{Entries}
use Rattle.sdr_base.proofs.GaveLemmas.{made_then, none_made, some_then}
use Rattle.sdr_list.specs.Calls.{ChangeStops, DeletesElement}
use Rattle.sdr_list.specs.Kept.{SomeSpot}
use Rattle.sdr_list.proofs.KeptLemmas.{element_there, spot_words}
use Rattle.bp_queue.specs.Kept.{Row}
use Rattle.bp_queue.specs.Removing.{IsItem, RemoveStops, RemovesSome, SomeItem, item_blocks}
use Rattle.bp_queue.specs.declared.queues.Queues.{Queues}
use Rattle.bp_queue.proofs.QueueLemmas.{never_missed}
use Rattle.bp_queue.proofs.RemoveLemmas.{in_class_is, in_class_spot, in_line_is, line_there}

-- why a call stops that gives an item back
some_none : {old new : Heap} → new.moves ≡ old.moves → new.spare ≡ old.spare → GaveSome [] old new
some_none {old} {new} moves spare = record {
  made = [];
  first = record { rest = []; whole = refl };
  moves = moves ∙ sym (append-nil old.moves);
  spare = spare ∙ sub_none old.spare;
}
  where
    sub_none : (n : ℕ) → n ≡ n - 0
    sub_none n = omega arith

-- so many first ones of its blocks were given back before
stopped : {old mid new : Heap} (before behind all : List ℕ) → before ++ behind ≡ all → Made (gave before) old mid →
    OnlyUnmoved mid new (Refused (refusals.LogFull 0 0)) → GaveSome all old new
stopped {old} {mid} {new} before behind all whole m u =
    subst (λ (addrs : List ℕ). GaveSome addrs old new) whole (some_then before [] behind m (some_none u.moves u.spare))

module _ (item : ℕ) (old : Heap) (in_class in_line : ℕ) (at_class : HasWord (old.blocks item) 5 in_class)
    (at_line : HasWord (old.blocks item) 6 in_line) where
  these : {q : Queues} {next : ℕ} {before : List Row} {r : Row} {behind : List Row} {rest : Entries} →
      IsItem old.blocks item q next before r behind rest → in_class ∷ in_line ∷ item ∷ [] ≡ item_blocks r
  these s = λ i. in_class_is s at_class i ∷ in_line_is s at_line i ∷ sym s.is i ∷ []

  some_unmoved : {mid new : Heap} (before behind : List ℕ) → before ++ behind ≡ in_class ∷ in_line ∷ item ∷ [] → Made (gave before) old mid →
      OnlyUnmoved mid new (Refused (refusals.LogFull 0 0)) → RemovesSome item old new
  some_unmoved before behind whole m u = record {
    gives = λ q next xs r ys rest s. stopped before behind (item_blocks r) (whole ∙ these s) m u;
  }

  -- at the element in the list of its class
  pub class_stops : SomeItem old.blocks item → (new : Heap) (stop : Stop) → ChangeStops kinds.Element in_class old new stop →
      RemoveStops item old new stop
  class_stops i new (Refused (refusals.BadAddress bad)) u =
      let spot = subst (SomeSpot old.blocks) (sym (in_class_is i.stands at_class)) (in_class_spot i.stands) in
      absurd (never_missed (old.blocks in_class) in_class kinds.Element (layout (spot_words spot.spot) []) (element_there spot.is) (Refused (refusals.BadAddress bad)) u.0)
  class_stops i new (Refused (refusals.WrongKind bad number)) u =
      let spot = subst (SomeSpot old.blocks) (sym (in_class_is i.stands at_class)) (in_class_spot i.stands) in
      absurd (never_missed (old.blocks in_class) in_class kinds.Element (layout (spot_words spot.spot) []) (element_there spot.is) (Refused (refusals.WrongKind bad number)) u.0)
  class_stops i new (Refused (refusals.LogFull lines room)) u =
      some_unmoved [] (in_class ∷ in_line ∷ item ∷ []) refl (none_made old) u.1
  class_stops i new (Refused refusal) u = absurd u.1
  class_stops i new DiskFault u = u
  class_stops i new MediaFault u = u
  class_stops i new Failed u = u

  -- at the element in the line
  pub line_stops : SomeItem old.blocks item → {first : Heap} → DeletesElement in_class old first → (new : Heap) (stop : Stop) →
      ChangeStops kinds.Element in_line first new stop → RemoveStops item old new stop
  line_stops i {first} d new (Refused (refusals.BadAddress bad)) u =
      let spot = line_there item old in_class in_line at_class at_line d i in
      absurd (never_missed (first.blocks in_line) in_line kinds.Element (layout (spot_words spot.spot) []) (element_there spot.is) (Refused (refusals.BadAddress bad)) u.0)
  line_stops i {first} d new (Refused (refusals.WrongKind bad number)) u =
      let spot = line_there item old in_class in_line at_class at_line d i in
      absurd (never_missed (first.blocks in_line) in_line kinds.Element (layout (spot_words spot.spot) []) (element_there spot.is) (Refused (refusals.WrongKind bad number)) u.0)
  line_stops i {first} d new (Refused (refusals.LogFull lines room)) u =
      some_unmoved (in_class ∷ []) (in_line ∷ item ∷ []) refl d.made u.1
  line_stops i d new (Refused refusal) u = absurd u.1
  line_stops i d new DiskFault u = u
  line_stops i d new MediaFault u = u
  line_stops i d new Failed u = u

  -- at its own block
  pub give_stops : {first second : Heap} → DeletesElement in_class old first → DeletesElement in_line first second →
      (new : Heap) (stop : Stop) → OnlyUnmoved second new stop → RemoveStops item old new stop
  give_stops d e new (Refused (refusals.LogFull lines room)) u =
      some_unmoved (in_class ∷ in_line ∷ []) (item ∷ []) refl (made_then (Gave in_class ∷ []) (Gave in_line ∷ []) d.made e.made) u
  give_stops d e new (Refused refusal) u = absurd u
  give_stops d e new DiskFault u = tt
  give_stops d e new MediaFault u = absurd u
  give_stops d e new Failed u = tt
