-- The thing that is told at an address is the thing of the world there.
use Rattle.std.proofs.Common.{◌≡◌, ◌<◌, ◌/◌, ◌^◌, ℕ, List, [], ◌∷◌, length, get_or, drop, Some, arith, refl, sym, ap, ◌∙◌, subst}
use Rattle.std.specs.Prelude.{IfSome, None, Option}
use Rattle.std.specs.Option.{option_map, option_or}
use Rattle.std.proofs.lemmas.Option.{none-some, same_Some}
use Rattle.sdr_base.specs.Blocks as base
use Rattle.sdr_base.specs.Pools.{Pools}
use Rattle.sdr_base.specs.declared.kind.Kind.{Kind}
use Rattle.sdr_base.specs.declared.kind.Kind.TheVariants as kinds
use Rattle.sdr_stands.specs.Shape.{shape_of}
use Rattle.sdr_stands.specs.Standing.{StandsForWhole}
use Rattle.sdr_stands.specs.Ties.{ties_of}
use Rattle.sdr_model.specs.Fields.{FitsThing, IsWord}
use Rattle.sdr_model.specs.Tables.{Table}
use Rattle.sdr_model.specs.Things as model
use Rattle.sdr_model.specs.Valid.{IsValidTable, IsValidThing}
use Rattle.sdr_model.specs.World.{World, thing_at}
use Rattle.sdr_model.specs.declared.things.UsedBlock.{UsedBlock}
use Rattle.sdr_model.specs.declared.things.Thing.{Thing}
use Rattle.sdr_model.specs.declared.things.Thing.TheVariants as things
use Rattle.audit_owners.proofs.LayoutLemmas.{word_laid}
use Rattle.audit_owners.specs.Reading.{behind_words, bytes_of}
use Rattle.audit_owners.specs.View.{View, view_in, word_of}
use Rattle.audit_world.specs.Told.{table_told, thing_by, thing_of_kind, thing_told}
use Rattle.sdr_audit.proofs.HashLemmas.{hash_is, list_is}
use Rattle.sdr_audit.proofs.ObjectLemmas.{object_is, source_told_is}
use Rattle.sdr_audit.proofs.ReadLemmas.{behind_laid}
use Rattle.sdr_audit.proofs.ToldStandLemmas.{own_block, own_stands}
use Rattle.sdr_audit.proofs.OwnerLemmas.{IsInner, IsLoose, block_told, loose_at, others_loose}

-- no thing is told of a block that is inside of another
inner_none : (kind : Kind) (heap : View) (words addr : ℕ) → IsInner kind → thing_of_kind kind heap words addr ≡ None
inner_none kinds.Raw heap words addr inner = absurd inner
inner_none kinds.Text heap words addr inner = absurd inner
inner_none kinds.List heap words addr inner = absurd inner
inner_none kinds.Element heap words addr inner = refl
inner_none kinds.Table heap words addr inner = absurd inner
inner_none kinds.Hash heap words addr inner = absurd inner
inner_none kinds.HashEntry heap words addr inner = refl
inner_none kinds.Name heap words addr inner = refl
inner_none kinds.Source heap words addr inner = absurd inner
inner_none kinds.Object heap words addr inner = absurd inner
inner_none kinds.Extent heap words addr inner = refl
inner_none kinds.Capsule heap words addr inner = refl
inner_none kinds.Ticket heap words addr inner = refl

-- nor of a block that is told as a loose one
loose_none : (heap : View) (words addr : ℕ) (o : Option base.Block) (loose : Option UsedBlock) → base.kind_length o ≡ shape_of loose →
    IsLoose loose →
    thing_by o heap words addr ≡ None
loose_none heap words addr None loose same is = refl
loose_none heap words addr (Some block) None same is = absurd (none-some (block.kind, length block.bytes) (sym same))
loose_none heap words addr (Some block) (Some other) same is =
    let kind = ap (λ (told : Kind × ℕ). told.0) (same_Some (block.kind, length block.bytes) (other.kind, other.bytes) same) in
    inner_none block.kind heap words addr (subst IsInner (sym kind) is)

module _ (bytes : List ℕ) (w : World) (P : Pools) (s : StandsForWhole bytes w P) where
  abbrev heap : View
  heap = view_in bytes

  abbrev words : ℕ
  words = length bytes / 8

  pub valid_thing : (addr : ℕ) (thing : Thing) → thing_at w addr ≡ Some thing → IsValidThing thing
  valid_thing addr thing is = subst (λ (o : Option Thing). IfSome o IsValidThing) is (s.whole.valid.things addr)

  pub fits_thing : (addr : ℕ) (thing : Thing) → thing_at w addr ≡ Some thing → IsWord addr × FitsThing thing
  fits_thing addr thing is = subst (λ (o : Option Thing). IfSome o (λ thing. IsWord addr × FitsThing thing)) is (s.fits.things addr)

  table_is : (addr : ℕ) (table : Table) → thing_at w addr ≡ Some (things.Table table) → IsWord table.user → IsValidTable table →
      table_told (heap.blocks addr) ≡ table
  table_is addr table is small valid =
      let size = valid.size in
      let rows = valid.rows in
      let bytes =
      ap (λ (b : Option base.Block). behind_words b 3) own
      ∙ behind_laid kinds.Table (table.user ∷ table.size ∷ table.rows ∷ []) table.bytes 3 refl in
      λ i. record {
        user = word 0 (omega arith) small i;
        rows = word 2 (omega arith) (omega (arith, rows)) i;
        size = word 1 (omega arith) (omega (arith, size)) i;
        bytes = bytes i;
      }
    where
      own : heap.blocks addr ≡ Some (own_block (ties_of w) addr (things.Table table))
      own = own_stands heap w s.stands.blocks addr (things.Table table) is

      word : (n : ℕ) → n < 3 → get_or (table.user ∷ table.size ∷ table.rows ∷ []) n 0 < 2 ^ 64 →
          word_of (heap.blocks addr) n ≡ get_or (table.user ∷ table.size ∷ table.rows ∷ []) n 0
      word n less few =
          ap (λ (b : Option base.Block). word_of b n) own
          ∙ word_laid kinds.Table (table.user ∷ table.size ∷ table.rows ∷ []) table.bytes n less few

  -- of the own block of a thing the thing is told
  told_own : (addr : ℕ) (thing : Thing) → thing_at w addr ≡ Some thing →
      thing_of_kind (own_block (ties_of w) addr thing).kind heap words addr ≡ Some thing
  told_own addr (things.Raw text) is =
      ap (λ (l : List ℕ). Some (things.Raw l))
      (ap (λ (b : Option base.Block). behind_words b 1) (own_stands heap w s.stands.blocks addr (things.Raw text) is)
      ∙ behind_laid kinds.Raw ((ties_of w).named_by addr ∷ []) text 1 refl)
  told_own addr (things.Text text) is =
      ap (λ (b : Option base.Block). Some (things.Text (drop 1 (bytes_of b))))
      (own_stands heap w s.stands.blocks addr (things.Text text) is)
  told_own addr (things.List list) is =
      let fits = (fits_thing addr (things.List list) is).1 in
      ap (λ l. Some (things.List l)) (list_is bytes w P s addr list is fits.0 fits.1)
  told_own addr (things.Table table) is =
      ap (λ t. Some (things.Table t))
      (table_is addr table is (fits_thing addr (things.Table table) is).1.0 (valid_thing addr (things.Table table) is))
  told_own addr (things.Hash hash) is =
      ap (λ h. Some (things.Hash h))
      (hash_is bytes w P s addr hash is (fits_thing addr (things.Hash hash) is).1 (valid_thing addr (things.Hash hash) is))
  told_own addr (things.Source source) is =
      ap (λ x. Some (things.Source x)) (source_told_is bytes w P s addr source is (fits_thing addr (things.Source source) is).1)
  told_own addr (things.Object z) is =
      ap (λ z. Some (things.Object z))
      (object_is bytes w P s addr z is (valid_thing addr (things.Object z) is) (fits_thing addr (things.Object z) is).1.extents)

  -- so the thing that is told at an address is the world's
  pub thing_is : (addr : ℕ) → thing_told heap words addr ≡ thing_at w addr
  thing_is addr = by (thing_at w addr) refl
    where
      by : (o : Option Thing) → thing_at w addr ≡ o → thing_told heap words addr ≡ thing_at w addr
      by None is =
          loose_none heap words addr (heap.blocks addr) (loose_at w addr)
          (block_told heap w s.stands.blocks s.whole.valid addr
          ∙ ap (λ (o : Option Thing). shape_of (option_or (option_map (model.own_block addr) o) (loose_at w addr))) is)
          (others_loose w addr)
          ∙ sym is
      by (Some thing) is =
          ap (λ (b : Option base.Block). thing_by b heap words addr) (own_stands heap w s.stands.blocks addr thing is)
          ∙ told_own addr thing is ∙ sym is
