-- Calls on the catalogue, as steps.
use Rattle.std.proofs.Common.{◌≡◌, ◌∙◌, ◌≤◌, ◌<◌, ◌++◌, ◌⊎◌, ℕ, List, [], ◌∷◌, true, false, find, map, length, take, Option, None, Some, inl, inr, refl, sym, ap, subst, arith}
use Rattle.std.proofs.lemmas.Bool.Decides.{nat_tests}
use Rattle.std.proofs.lemmas.List.{map-append}
use Rattle.std.proofs.lemmas.Option.{get_or_from_slice_get, slice_get-map, slice_get_within}
use Rattle.std.specs.Option.{option_map}
use Rattle.std.specs.Prelude.{slice_get}
use Rattle.step_keyed.proofs.NameLemmas.{find_is, names_kept, names_roots, without_is}
use Rattle.step_things.proofs.RowLemmas.{full_refused, gave_has, marks_none, moved_answered, row_refused, short_refused, shows, took_has, unmoved_answered}
use Rattle.step_things.specs.Answering.{Answered, IsRefused, IsReady}
use Rattle.sdr_stands.proofs.ChangeLemmas.{part_becomes}
use Rattle.sdr_stands.proofs.PartLemmas.{names_part}
use Rattle.sdr_stands.specs.Rows.{name_row}
use Rattle.sdr_stands.specs.Standing.{HeapStandsFor, with_taken_marked}
use Rattle.sdr_base.specs.Catalogue.{NameRow, catalogue_entries}
use Rattle.sdr_base.specs.Entries.{Changes}
use Rattle.sdr_base.specs.Objects.{Heap}
use Rattle.sdr_base.specs.declared.moves.Move.{Move}
use Rattle.sdr_base.specs.declared.moves.Move.TheVariants.{Gave, Took}
use Rattle.sdr_base.specs.declared.refusal.Refusal.{Refusal}
use Rattle.sdr_base.specs.declared.refusal.Refusal.TheVariants as refusals
use Rattle.sdr_base.specs.declared.stop.Stop.TheVariants as stops
use Rattle.sdr_cat.specs.Calls.{EntryStops, FindStops, FindsName, LacksName, ReadsEntry, row_told}
use Rattle.sdr_cat.specs.Changes.{CataloguesName, CatlgStops, IsThere, Renamed, UncataloguesName, UncatlgStops, row_addr, object_of, with_last, with_names}
use Rattle.sdr_cat.specs.Kept.{NameFits, SomeNames}
use Rattle.sdr_cat.specs.Names as blocks
use Rattle.sdr_cat.specs.Names.{IsBadName, IsName, is_named}
use Rattle.sdr_machine.proofs.WorkLemmas.{on_false, on_none, on_some, on_true}
use Rattle.sdr_model.specs.Limits.{is_no_name}
use Rattle.sdr_model.specs.NameSteps.{OnName}
use Rattle.sdr_model.specs.Names.{name_of, without_name}
use Rattle.sdr_model.specs.Rows.{ByRow}
use Rattle.sdr_model.specs.Steps.{Outcome}
use Rattle.sdr_model.specs.Things.{name_need}
use Rattle.sdr_model.specs.World.{World}
use Rattle.sdr_model.specs.declared.answer.Reply.TheVariants as replies
use Rattle.sdr_model.specs.declared.call.Call.{Call}
use Rattle.sdr_model.specs.declared.call.Call.TheVariants as calls
use Rattle.sdr_model.specs.declared.name.Name.{Name}

-- whether the length of a name is allowed
good_length : (name : List ℕ) → IsName name → is_no_name (length name) ≡ false
good_length name is = grind (arith, nat_tests, is.some, is.short)

bad_length : (name : List ℕ) → (length name ≡ 0) ⊎ (31 < length name) → is_no_name (length name) ≡ true
bad_length name (inl none) = grind (arith, nat_tests, none)
bad_length name (inr many) = grind (arith, nat_tests, many)

-- the world without these names, or with others
abbrev renamed : World → List Name → World
renamed w names = record w { names = names }

-- the name of an entry is short
pub entry_short : (heap : Heap) (place : ℕ) (value : ℕ × ℕ × ℕ) (into : List ℕ) → SomeNames heap
    → ReadsEntry place heap value into → value.0 ≤ 31
entry_short heap place value into some reads =
    let has = reads.has some.names some.keeps in
    let fits : NameFits has.row =
    subst NameFits (get_or_from_slice_get some.names place has.row has.row has.here)
    (some.keeps.fits place has.row (slice_get_within some.names place has.row has.here)) in
    omega (arith, has.read.length, fits.short)

-- a call on a heap that stands for a world in which it is served
module _ (old new : Heap) (w : World) (unmoved : old.moves ≡ []) (s : HeapStandsFor old w) (served : IsReady w) where
  -- a name that isn't there, and one that is
  module _ (o : Outcome) (name : List ℕ) (missing : Type 0) (there : Name → Type 0) where
    on_lacked : IsName name → name_of w.names name ≡ None → missing → OnName w o name missing there
    on_lacked is none goes = on_false _ _ _ (good_length name is) (on_none _ _ (name_of w.names name) none goes)

    on_named : (n : Name) → IsName name → name_of w.names name ≡ Some n → there n → OnName w o name missing there
    on_named n is found goes = on_false _ _ _ (good_length name is) (on_some _ _ (name_of w.names name) n found goes)

  -- a name of a wrong length
  badly_named : (name : List ℕ) (count most : ℕ) (missing : Type 0) (there : Name → Type 0)
      → IsBadName name (stops.Refused (refusals.BadLength count most))
      → OnName w (record { moves = []; after = w; reply = replies.Refused (refusals.BadLength count most) }) name missing there
  badly_named name count most missing there bad =
      on_true _ _ _ (bad_length name bad.2) (refl, refl, λ i. replies.Refused (refusals.BadLength (bad.0 i) (bad.1 i)))

  -- what was found of whichever catalogue is kept is the world's
  lacks_name : (name : List ℕ) → LacksName name old → name_of w.names name ≡ None
  lacks_name name lacks =
      none (name_of w.names name) (sym (find_is w.names name) ∙ lacks.lacks (map name_row w.names) (names_kept old w s served))
    where
      none : (o : Option Name) → option_map name_row o ≡ None → o ≡ None
      none None is = refl
      none (Some n) is = absurd cc

  has_name : {A : Type 0} (name : List ℕ) (of : Option NameRow → Option A) (value : A) → of None ≡ None
      → of (find (is_named name) (map name_row w.names)) ≡ Some value
      → (n : Name) × (name_of w.names name ≡ Some n) × (of (Some (name_row n)) ≡ Some value)
  has_name name of value none found = by (name_of w.names name) refl (ap of (sym (find_is w.names name)) ∙ found)
    where
      by : (o : Option Name) → name_of w.names name ≡ o → of (option_map name_row o) ≡ Some value
          → (n : Name) × (name_of w.names name ≡ Some n) × (of (Some (name_row n)) ≡ Some value)
      by None is told = absurd (let no : None ≡ Some value = sym none ∙ told in cc)
      by (Some n) is told = (n, is, told)

  -- a name was found
  pub find_answered : (name : List ℕ) (told : ℕ × ℕ) → new ≡ old → FindsName name old told
      → Answered w (calls.Find name) new [] (replies.Pair told.0 told.1)
  find_answered name told same finds =
      let n = has_name name row_told told refl (finds.tells (map name_row w.names) (names_kept old w s served)) in
      let is : (n.0.kind, n.0.object) ≡ told = some_is n.2 in
      unmoved_answered w (record w {
        shown =
            [];
      }) (calls.Find name) new [] (replies.Pair told.0 told.1) (ap (λ (h : Heap). h.moves) same ∙ unmoved)
      (on_named _ name _ _ n.0 finds.is n.1 (refl, refl, sym (ap (λ (p : ℕ × ℕ). replies.Pair p.0 p.1) is)))
      refl (shows old new w [] same s) refl refl
    where
      some_is : {A : Type 0} {x y : A} → Some x ≡ Some y → x ≡ y
      some_is e = cc

  -- why not
  pub find_refused : (name was : List ℕ) (refusal : Refusal) → new ≡ old → FindStops name old (stops.Refused refusal)
      → IsRefused w (calls.Find name) old new was was refusal
  find_refused name was refusals.NotFound same m = record {
    step = inl (row_refused w (calls.Find name) new refusals.NotFound (ap (λ (h : Heap). h.moves) same ∙ unmoved)
        (on_lacked _ name _ _ m.is (lacks_name name m) (refl, refl, refl)));
    left = λ reads. same;
    gave = refl;
  }
  find_refused name was (refusals.BadLength count most) same m = record {
    step = inl (row_refused w (calls.Find name) new (refusals.BadLength count most) (ap (λ (h : Heap). h.moves) same ∙ unmoved)
        (badly_named name count most _ _ m));
    left = λ reads. same;
    gave = refl;
  }
  find_refused name was refusal same m = absurd m

  -- the catalogue became another
  names_become : (call : Call) (names : List Name) (rows : List NameRow) (moves : List Move) → rows ≡ map name_row names
      → Changes old.blocks new.blocks (catalogue_entries (map name_row w.names)) (catalogue_entries rows)
      → Renamed moves rows old new
      → HeapStandsFor new (with_taken_marked (renamed w names) moves)
  names_become call names rows moves same change words =
      part_becomes old new w (renamed w names) (catalogue_entries (map name_row w.names)) (catalogue_entries (map name_row names))
      moves s
      (names_part w names)
      (subst (λ (r : List NameRow). Changes old.blocks new.blocks (catalogue_entries (map name_row w.names))
      (catalogue_entries r)) same change)
      (ap (λ (h : Heap). h.marks) words.all)
      (ap (λ (h : Heap). h.roots) words.all
      ∙ (λ i. with_names (s.roots i) (same i)) ∙ names_roots w names)
      refl

  moves_are : (rows : List NameRow) (moves : List Move) → Renamed moves rows old new → new.moves ≡ moves
  moves_are rows moves words = ap (λ (h : Heap). h.moves) words.all ∙ ap (λ (ms : List Move). ms ++ moves) unmoved

  -- the catalogue with a new name
  abbrev with_name : List ℕ → ℕ → ℕ → ℕ → List Name
  with_name name kind object addr = w.names ++ record { block = addr; name = name; kind = kind; object = object } ∷ []

  -- the row of a name that comes
  catlg_row : (name : List ℕ) (kind object addr : ℕ) → IsName name → name_of w.names name ≡ None
      → ByRow w (record {
        moves = Took name_need addr ∷ [];
        after = with_taken_marked (renamed w (with_name name kind object addr)) (Took name_need addr ∷ []);
        reply = replies.Done;
      }) (calls.Catlg name kind object)
  catlg_row name kind object addr is none = on_lacked _ name _ _ is none (refl, (refl, refl))

  pub catlg_answered : (name : List ℕ) (kind object : ℕ) → CataloguesName name kind object old new
      → Answered w (calls.Catlg name kind object) new [] replies.Done
  catlg_answered name kind object catalogues =
      let keeps = names_kept old w s served in
      let addr = catalogues.adds.addr in
      let adds = catalogues.adds.adds (map name_row w.names) keeps in
      let words = catalogues.adds.renamed (map name_row w.names) keeps in
      let same : with_last (map name_row w.names) addr name kind object ≡ map name_row (with_name name kind object addr) =
      sym (map-append name_row w.names (record { block = addr; name = name; kind = kind; object = object } ∷ [])) in
      let rows = with_last (map name_row w.names) addr name kind object in
      moved_answered w (renamed w (with_name name kind object addr)) (calls.Catlg name kind object) (Took name_need addr ∷ []) new
      replies.Done
      (took_has w name_need addr old new s served.whole.valid adds.fresh adds.nonzero adds.small
      (moves_are rows (Took name_need addr ∷ []) words))
      (names_become (calls.Catlg name kind object) (with_name name kind object addr) rows (Took name_need addr ∷ []) same
      adds.changes words)
      refl (catlg_row name kind object addr catalogues.lacks.is (lacks_name name catalogues.lacks)) refl

  pub catlg_refused : (name : List ℕ) (kind object : ℕ) (was : List ℕ) (refusal : Refusal)
      → CatlgStops name old new (stops.Refused refusal)
      → IsRefused w (calls.Catlg name kind object) old new was was refusal
  catlg_refused name kind object was (refusals.BadLength count most) m = record {
    step =
        inl (row_refused w (calls.Catlg name kind object) new (refusals.BadLength count most)
        (ap (λ (h : Heap). h.moves) m.1 ∙ unmoved)
        (badly_named name count most _ _ m.0));
    left = λ reads. m.1;
    gave = refl;
  }
  catlg_refused name kind object was (refusals.NameTaken taken) m = record {
    step =
        let n = has_name name object_of taken refl (m.0.names_it (map name_row w.names) (names_kept old w s served)) in
        let is : n.0.object ≡ taken = some_is n.2 in
        inl (row_refused w (calls.Catlg name kind object) new (refusals.NameTaken taken)
        (ap (λ (h : Heap). h.moves) m.1 ∙ unmoved)
        (on_named _ name _ _ n.0 m.0.is n.1 (refl, refl, sym (ap (λ a. replies.Refused (refusals.NameTaken a)) is))));
    left = λ reads. m.1;
    gave = refl;
  }
    where
      some_is : {A : Type 0} {x y : A} → Some x ≡ Some y → x ≡ y
      some_is e = cc
  catlg_refused name kind object was refusal m =
      short_refused w (calls.Catlg name kind object) name_need old new was refusal refl
      (record { after = _; reply = _; row = catlg_row name kind object 0 m.0.is (lacks_name name m.0); answered = refl }) unmoved
      m.1

  -- the name that is there
  there_name : (name : List ℕ) (t : IsThere name old) → (n : Name) × (name_of w.names name ≡ Some n) × (n.block ≡ t.addr)
  there_name name t =
      let n = has_name name row_addr t.addr refl (t.entry (map name_row w.names) (names_kept old w s served)) in
      (n.0, n.1, some_is n.2)
    where
      some_is : {A : Type 0} {x y : A} → Some x ≡ Some y → x ≡ y
      some_is e = cc

  uncatlg_row : (name : List ℕ) (n : Name) (addr : ℕ) → IsName name → name_of w.names name ≡ Some n → n.block ≡ addr
      → ByRow w (record {
        moves = Gave addr ∷ [];
        after = with_taken_marked (renamed w (without_name w.names name)) (Gave addr ∷ []);
        reply = replies.Done;
      }) (calls.Uncatlg name)
  uncatlg_row name n addr is found block =
      on_named _ name _ _ n is found
      (sym (ap (λ a. Gave a ∷ []) block), marks_none (renamed w (without_name w.names name)) (Gave addr ∷ []) refl, refl)

  pub uncatlg_answered : (name : List ℕ) → UncataloguesName name old new → Answered w (calls.Uncatlg name) new [] replies.Done
  uncatlg_answered name goes =
      let keeps = names_kept old w s served in
      let n = there_name name goes.there in
      let addr = goes.there.addr in
      let words = goes.renamed (map name_row w.names) keeps in
      let rows = blocks.without_name name (map name_row w.names) in
      moved_answered w (renamed w (without_name w.names name)) (calls.Uncatlg name) (Gave addr ∷ []) new replies.Done
      (gave_has w (addr ∷ []) new (moves_are rows (Gave addr ∷ []) words))
      (names_become (calls.Uncatlg name) (without_name w.names name) rows (Gave addr ∷ []) (without_is w.names name)
      (goes.changes (map name_row w.names) keeps) words)
      refl (uncatlg_row name n.0 addr goes.there.is n.1 n.2) refl

  pub uncatlg_refused : (name was : List ℕ) (refusal : Refusal) → UncatlgStops name old new (stops.Refused refusal)
      → IsRefused w (calls.Uncatlg name) old new was was refusal
  uncatlg_refused name was (refusals.BadLength count most) m = record {
    step = inl (row_refused w (calls.Uncatlg name) new (refusals.BadLength count most) (ap (λ (h : Heap). h.moves) m.1 ∙ unmoved)
        (badly_named name count most _ _ m.0));
    left = λ reads. m.1;
    gave = refl;
  }
  uncatlg_refused name was refusals.NotFound m = record {
    step = inl (row_refused w (calls.Uncatlg name) new refusals.NotFound (ap (λ (h : Heap). h.moves) m.1 ∙ unmoved)
        (on_lacked _ name _ _ m.0.is (lacks_name name m.0) (refl, refl, refl)));
    left = λ reads. m.1;
    gave = refl;
  }
  uncatlg_refused name was refusal m =
      let n = there_name name m.0 in
      full_refused w (calls.Uncatlg name) old new was refusal refl
      (record { to = _; row = uncatlg_row name n.0 m.0.addr m.0.is n.1 n.2; answered = refl }) m.1

  -- the entry at a place
  pub entry_answered : (place : ℕ) (value : ℕ × ℕ × ℕ) (into : List ℕ) → new ≡ old → ReadsEntry place old value into
      → Answered w (calls.Entry place) new (take value.0 into) (replies.Named value.0 value.1 value.2)
  entry_answered place value into same reads =
      let has = reads.has (map name_row w.names) (names_kept old w s served) in
      let n = at_place (slice_get w.names place) has.row (sym (slice_get-map name_row w.names place) ∙ has.here) in
      let r = has.read in
      let name : take value.0 into ≡ n.0.name = r.name ∙ ap (λ (row : NameRow). row.name) (sym n.2) in
      let count : value.0 ≡ length n.0.name = r.length ∙ ap (λ (row : NameRow). length row.name) (sym n.2) in
      let kind : value.1 ≡ n.0.kind = r.type_number ∙ ap (λ (row : NameRow). row.type_number) (sym n.2) in
      let object : value.2 ≡ n.0.object = r.object ∙ ap (λ (row : NameRow). row.object) (sym n.2) in
      unmoved_answered w (record w {
        shown =
            take value.0 into;
      }) (calls.Entry place) new (take value.0 into) (replies.Named value.0 value.1 value.2)
      (ap (λ (h : Heap). h.moves) same ∙ unmoved)
      (on_some _ _ (slice_get w.names place) n.0 n.1
      (refl, ap (λ (b : List ℕ). record w { shown = b }) name, λ i. replies.Named (count i) (kind i) (object i)))
      refl (shows old new w (take value.0 into) same s) refl refl
    where
      at_place : (o : Option Name) (row : NameRow) → option_map name_row o ≡ Some row
          → (n : Name) × (o ≡ Some n) × (name_row n ≡ row)
      at_place None row is = absurd cc
      at_place (Some n) row is = (n, refl, cc)

  pub entry_refused : (place : ℕ) (was : List ℕ) (refusal : Refusal) → new ≡ old → EntryStops place old (stops.Refused refusal)
      → IsRefused w (calls.Entry place) old new was was refusal
  entry_refused place was refusals.NotFound same m = record {
    step =
        let none = unmapped (slice_get w.names place)
        (sym (slice_get-map name_row w.names place) ∙ m.lacks (map name_row w.names) (names_kept old w s served)) in
        inl (row_refused w (calls.Entry place) new refusals.NotFound (ap (λ (h : Heap). h.moves) same ∙ unmoved)
        (on_none _ _ (slice_get w.names place) none (refl, refl, refl)));
    left = λ reads. same;
    gave = refl;
  }
    where
      unmapped : (o : Option Name) → option_map name_row o ≡ None → o ≡ None
      unmapped None is = refl
      unmapped (Some n) is = absurd cc
  entry_refused place was refusal same m = absurd m
