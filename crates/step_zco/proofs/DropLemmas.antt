-- The header or trailer that a discard takes from an object, as the world and the blocks have it.
use Rattle.std.proofs.Common.{◌≡◌, ◌∙◌, ◌+◌, ◌-◌, List, ◌++◌, Option, Some, take, length, map, refl, sym, ap, subst, append_assoc}
use Rattle.std.proofs.lemmas.List.{drop-map, length-map, take-map}
use Rattle.std.proofs.lemmas.List.Elements.{All-drop, All-take}
use Rattle.std.proofs.lemmas.Option.{slice_get-map}
use Rattle.std.specs.Option.{option_map}
use Rattle.std.specs.Prelude.{slice_get}
use Rattle.sdr_stands.specs.Rows.{capsule_row, object_row}
use Rattle.sdr_base.specs.Blocks.{Blocks}
use Rattle.sdr_base.specs.Entries.{Changes, Entries, BlocksAre}
use Rattle.sdr_base.specs.ZcoObjects.{CapsuleRow, ObjectRow}
use Rattle.sdr_base.specs.declared.kind.Space.{Space}
use Rattle.law_steps.proofs.ObjectRows.{first_less, last_less}
use Rattle.sdr_model.specs.Charges.{capsule_charge, object_charge}
use Rattle.sdr_model.specs.Fields.{FitsCapsule, FitsObject}
use Rattle.sdr_model.specs.ObjectSteps as object
use Rattle.sdr_model.specs.ObjectSteps.{last_capsule, with_object}
use Rattle.sdr_model.specs.declared.zco.Capsule.{Capsule}
use Rattle.sdr_model.specs.declared.zco.ZcoObject.{ZcoObject}
use Rattle.zco_obj.specs.Discards.{first_header, last_trailer, without_header, without_trailer}

-- the header or trailer that goes from an object, and the object without it, are those of its row; the object names what it
-- named, and charges less by what that one charged
pub record DropsOne (pick : ZcoObject → Option Capsule) (without : ZcoObject → ZcoObject) (pick_row : ObjectRow → Option CapsuleRow)
    (without_row : ObjectRow → ObjectRow) : Type 0 where
  pub picked : (z : ZcoObject) → pick_row (object_row z) ≡ option_map capsule_row (pick z)
  pub rows : (z : ZcoObject) → object_row (without z) ≡ without_row (object_row z)
  pub account : (z : ZcoObject) → (without z).account ≡ z.account
  pub extents : (z : ZcoObject) → (without z).extents ≡ z.extents
  pub less : (z : ZcoObject) (c : Capsule) → pick z ≡ Some c → (space : Space) →
      object_charge space (without z) + capsule_charge space c ≡ object_charge space z
  pub fits : (z : ZcoObject) → FitsObject z → FitsObject (without z)

pub drops_header : DropsOne (λ z. slice_get z.headers 0) object.without_header first_header without_header
drops_header = record {
  picked = λ z. slice_get-map capsule_row z.headers 0;
  rows = λ z. ap (λ (rows : List CapsuleRow). record (object_row z) { headers = rows }) (sym (drop-map capsule_row 1 z.headers));
  account = λ z. refl;
  extents = λ z. refl;
  less = λ z c is space. first_less z c is space;
  fits = λ z f. record {
    headers = All-drop FitsCapsule 1 z.headers f.headers;
    extents = f.extents;
    trailers = f.trailers;
  };
}

pub drops_trailer : DropsOne (λ z. last_capsule z.trailers) object.without_trailer last_trailer without_trailer
drops_trailer = record {
  picked = λ z.
      ap (λ n. slice_get (map capsule_row z.trailers) (n - 1)) (length-map z.trailers capsule_row)
      ∙ slice_get-map capsule_row z.trailers (length z.trailers - 1);
  rows = λ z.
      ap (λ (rows : List CapsuleRow). record (object_row z) { trailers = rows })
      (sym (take-map capsule_row (length z.trailers - 1) z.trailers)
      ∙ ap (λ n. take (n - 1) (map capsule_row z.trailers)) (sym (length-map z.trailers capsule_row)));
  account = λ z. refl;
  extents = λ z. refl;
  less = λ z c is space. last_less z c is space;
  fits = λ z f. record {
    headers = f.headers;
    extents = f.extents;
    trailers = All-take FitsCapsule (length z.trailers - 1) z.trailers f.trailers;
  };
}

-- what stands behind some blocks stands so where they change
pub framed : {b b' : Blocks} (es es' q : Entries) → Changes b b' es es' → Changes b b' (es ++ q) (es' ++ q)
framed {b} {b'} es es' q c = record {
  kept = λ rest s.
      subst (λ (xs : Entries). BlocksAre b' xs) (sym (append_assoc es' q rest))
      (c.kept (q ++ rest) (subst (λ (xs : Entries). BlocksAre b xs) (append_assoc es q rest) s));
}
