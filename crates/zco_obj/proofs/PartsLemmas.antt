-- The chains of an object that is kept.
use Rattle.std.proofs.Common.{◌≡◌, ◌+◌, ◌<◌, ◌^◌, ℕ, [], ◌∷◌, ◌++◌, length, ◌∙◌, arith, subst, append_assoc}
use Rattle.std.specs.Prelude.{All}
use Rattle.sdr_base.specs.Blocks.{Blocks, IsKind}
use Rattle.sdr_base.specs.Entries.{Entries, BlocksAre}
use Rattle.sdr_base.specs.Linked.{first_of, last_of}
use Rattle.sdr_base.specs.Words.{HasWord}
use Rattle.sdr_base.specs.ZcoObjects.{ObjectRow, capsule_addr, capsule_entries, extent_addr, extent_entries, object_block}
use Rattle.sdr_base.specs.declared.kind.Kind.TheVariants as kinds
use Rattle.sdr_base.proofs.StandingLemmas.{moved}
use Rattle.zco_obj.specs.Chains.{capsules, ends_block}
use Rattle.zco_obj.specs.Kept.{CapsuleFits, KeepsObject}
use Rattle.zco_obj.specs.Reading.{TellsObject, wire_length}
use Rattle.zco_obj.specs.Walks.{CapsulesAt, ExtentsAt, TellsCapsules, TellsExtents}
use Rattle.zco_obj.specs.declared.linking.Side.{Side}
use Rattle.zco_obj.specs.declared.linking.Side.TheVariants as sides
use Rattle.zco_obj.proofs.ChainLemmas.{around, opened}
use Rattle.zco_obj.proofs.KeptLemmas.{object_word}

module _ {blocks : Blocks} {object : ℕ} {row : ObjectRow} (k : KeepsObject blocks object row) where
  side_fits : (side : Side) → All CapsuleFits (capsules side row)
  side_fits sides.Headers = k.fits.headers
  side_fits sides.Trailers = k.fits.trailers

  side_few : (side : Side) → length (capsules side row) < 2 ^ 22
  side_few sides.Headers = let f = k.fits.few in omega (arith, f)
  side_few sides.Trailers = let f = k.fits.few in omega (arith, f)

  -- its headers, or its trailers, are a chain
  pub side_at : (side : Side) (first : ℕ) → first ≡ first_of capsule_addr 0 (capsules side row) →
      CapsulesAt blocks first (capsules side row)
  side_at side first e =
      let rows = capsules side row in
      let own : Entries = (object, ends_block side row (first_of capsule_addr 0 rows) (last_of capsule_addr 0 rows)) ∷ [] in
      record {
        rest = own ++ (around side row ++ k.rest);
        stands = moved own (capsule_entries rows) (around side row ++ k.rest) (opened side object row k.rest k.stands);
        at_first = e;
        fits = side_fits side;
        few = side_few side;
      }

  -- so are its extents
  pub extents_at : (first : ℕ) → first ≡ first_of extent_addr 0 row.extents → ExtentsAt blocks first row.extents
  extents_at first e =
      let H = capsule_entries row.headers in
      let X = extent_entries row.extents in
      let T = capsule_entries row.trailers in
      let own : Entries = (object, object_block row) ∷ H in
      record {
        rest = own ++ (T ++ k.rest);
        stands = moved own X (T ++ k.rest)
            (subst (λ (es : Entries). BlocksAre blocks ((object, object_block row) ∷ es))
            (append_assoc (H ++ X) T k.rest ∙ append_assoc H X (T ++ k.rest)) k.stands);
        at_first = e;
        fits = k.fits.extents;
        few = let f = k.fits.few in omega (arith, f);
      }

  pub headers_from : {first : ℕ} → HasWord (blocks object) 3 first → CapsulesAt blocks first row.headers
  headers_from {first} h = side_at sides.Headers first (object_word k 3 first (omega arith) h)

  pub trailers_from : {first : ℕ} → HasWord (blocks object) 5 first → CapsulesAt blocks first row.trailers
  trailers_from {first} h = side_at sides.Trailers first (object_word k 5 first (omega arith) h)

  pub extents_from : {first : ℕ} → HasWord (blocks object) 1 first → ExtentsAt blocks first row.extents
  extents_from {first} h = extents_at first (object_word k 1 first (omega arith) h)

-- the bytes of all three are its bytes on the wire
pub length_told : {blocks : Blocks} {object header extent trailer : ℕ} (a b c : ℕ) → IsKind (blocks object) kinds.Object →
    HasWord (blocks object) 3 header → HasWord (blocks object) 1 extent → HasWord (blocks object) 5 trailer →
    TellsCapsules blocks header a → TellsExtents blocks extent b → TellsCapsules blocks trailer c →
    TellsObject blocks object wire_length (a + b + c)
length_told a b c kind h e t x y z = record {
  kind = kind;
  told = record {
    tells = λ row k.
        let p = x.tells row.headers (headers_from k h) in
        let q = y.tells row.extents (extents_from k e) in
        let r = z.tells row.trailers (trailers_from k t) in omega (arith, p, q, r);
  };
}
