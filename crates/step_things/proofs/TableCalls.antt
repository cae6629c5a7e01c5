-- Calls on tables, as steps.
use Rattle.std.proofs.Common.{◌≡◌, ◌∙◌, ◌<◌, ◌*◌, ◌==◌, ℕ, List, [], ◌∷◌, Bool, true, false, None, Some, cond, inl, nat_le, nat_lt, length, take, refl, sym, ap, subst, arith}
use Rattle.std.specs.Prelude.{replicate}
use Rattle.std.proofs.lemmas.Bool.Decides.{nat_tests}
use Rattle.step_things.proofs.RowLemmas.{full_refused, gave_back, looked, marks_none, misnamed_refused, moved_nothing, row_refused, short_refused, shows, thing_changed, thing_made, thing_went, unmoved_answered}
use Rattle.step_things.proofs.TableLemmas.{IsTableAt, no_table, table_is_at}
use Rattle.step_things.specs.Answering.{Answered, IsRefused, IsReady}
use Rattle.sdr_stands.specs.Rows.{table_row}
use Rattle.sdr_stands.specs.Standing.{HeapStandsFor, with_taken_marked}
use Rattle.sdr_base.specs.Objects.{Heap, Misses}
use Rattle.sdr_base.specs.Parts.{overwrite}
use Rattle.sdr_base.specs.declared.kind.Kind.TheVariants as kinds
use Rattle.sdr_base.specs.declared.moves.Move.TheVariants.{Gave, Took}
use Rattle.sdr_base.specs.declared.refusal.Refusal.{Refusal}
use Rattle.sdr_base.specs.declared.refusal.Refusal.TheVariants as refusals
use Rattle.sdr_base.specs.declared.stop.Stop.TheVariants as stops
use Rattle.sdr_machine.proofs.WorkLemmas.{on_false, on_some, on_true}
use Rattle.sdr_model.specs.Limits.{longest_raw, longest_read}
use Rattle.sdr_model.specs.Rows.{ByRow}
use Rattle.sdr_model.specs.Steps.{On, Outcome, RefusedIf, with_thing, without_thing}
use Rattle.sdr_model.specs.TableSteps.{as_table}
use Rattle.sdr_model.specs.Tables.{Table}
use Rattle.sdr_model.specs.Things.{table_need}
use Rattle.sdr_model.specs.World.{World, thing_at}
use Rattle.sdr_model.specs.declared.answer.Reply.TheVariants as replies
use Rattle.sdr_model.specs.declared.call.Call.{Call}
use Rattle.sdr_model.specs.declared.call.Call.TheVariants as calls
use Rattle.sdr_model.specs.declared.things.Thing.TheVariants as things
use Rattle.sdr_table.specs.Calls.{CreateStops, DestroyStops, DestroysTable, MakesTable, TellsOfTable}
use Rattle.sdr_table.specs.Kept.{first_above}
use Rattle.sdr_table.specs.Rows.{IsNoRow, ReadsRow, RowStops, SetStops, SetsRow}

-- a table of zero bytes
abbrev zero_table : ℕ → ℕ → ℕ → Table
zero_table rows size user = record { user = user; rows = rows; size = size; bytes = replicate (rows * size) 0 }

-- none of the counts is above the most
not_above : (rows size : ℕ) → first_above rows size ≡ None
    → (nat_lt longest_raw rows ≡ false) × (nat_lt longest_raw size ≡ false) × (nat_lt longest_raw (rows * size) ≡ false)
not_above rows size none = by (nat_lt longest_raw rows) (nat_lt longest_raw size) (nat_lt longest_raw (rows * size)) none
  where
    by : (a b c : Bool) → cond a (Some rows) (cond b (Some size) (cond c (Some (rows * size)) None)) ≡ None
        → (a ≡ false) × (b ≡ false) × (c ≡ false)
    by false false false is = (refl, refl, refl)
    by true b c is = absurd cc
    by false true c is = absurd cc
    by false false true is = absurd cc

-- a table was made
abbrev table_outcome : World → ℕ → ℕ → ℕ → ℕ → Outcome
table_outcome w rows size user addr = record {
  moves = Took (table_need rows size) addr ∷ [];
  after = with_taken_marked (with_thing w addr (things.Table (zero_table rows size user)))
      (Took (table_need rows size) addr ∷ []);
  reply = replies.At addr;
}

table_made_row : (w : World) (rows size user addr : ℕ) → first_above rows size ≡ None
    → ByRow w (table_outcome w rows size user addr) (calls.Table rows size user)
table_made_row w rows size user addr none =
    let tests = not_above rows size none in
    on_false _ _ _ tests.0 (on_false _ _ _ tests.1 (on_false _ _ _ tests.2 (refl, (refl, refl))))

-- the first count that is above the most is refused
above_row : (w : World) (rows size user length most : ℕ) → first_above rows size ≡ Some length → most ≡ longest_raw
    → ByRow w (record { moves = []; after = w; reply = replies.Refused (refusals.BadLength length most) })
    (calls.Table rows size user)
above_row w rows size user length most first is =
    by (nat_lt longest_raw rows) (nat_lt longest_raw size) (nat_lt longest_raw (rows * size)) refl refl refl first
  where
    told : (count : ℕ) → count ≡ length
        → replies.Refused (refusals.BadLength length most) ≡ replies.Refused (refusals.BadLength count longest_raw)
    told count same = λ i. replies.Refused (refusals.BadLength (sym same i) (is i))

    by : (a b c : Bool) → nat_lt longest_raw rows ≡ a → nat_lt longest_raw size ≡ b → nat_lt longest_raw (rows * size) ≡ c
        → cond a (Some rows) (cond b (Some size) (cond c (Some (rows * size)) None)) ≡ Some length
        → ByRow w (record { moves = []; after = w; reply = replies.Refused (refusals.BadLength length most) })
        (calls.Table rows size user)
    by true b c one two three here = on_true _ _ _ one (refl, refl, told rows cc)
    by false true c one two three here = on_false _ _ _ one (on_true _ _ _ two (refl, refl, told size cc))
    by false false true one two three here =
        on_false _ _ _ one (on_false _ _ _ two (on_true _ _ _ three (refl, refl, told (rows * size) cc)))
    by false false false one two three here = absurd cc

-- a call on a heap that stands for a world in which it is served
module _ (old new : Heap) (w : World) (unmoved : old.moves ≡ []) (s : HeapStandsFor old w) (served : IsReady w) where
  pub table_made : (rows size user addr : ℕ) → MakesTable rows size user addr old new
      → Answered w (calls.Table rows size user) new [] (replies.At addr)
  table_made rows size user addr made =
      thing_made w (calls.Table rows size user) (table_need rows size) addr (things.Table (zero_table rows size user)) old new
      unmoved s
      served.whole.valid tt made.makes (table_made_row w rows size user addr made.fits)

  pub table_unmade : (rows size user : ℕ) (was : List ℕ) (refusal : Refusal)
      → CreateStops rows size old new (stops.Refused refusal)
      → IsRefused w (calls.Table rows size user) old new was was refusal
  table_unmade rows size user was (refusals.BadLength length most) m = record {
    step =
        inl (row_refused w (calls.Table rows size user) new (refusals.BadLength length most)
        (ap (λ (h : Heap). h.moves) m.1 ∙ unmoved)
        (above_row w rows size user length most m.0.0 m.0.1));
    left = λ reads. m.1;
    gave = refl;
  }
  table_unmade rows size user was refusal m =
      short_refused w (calls.Table rows size user) (table_need rows size) old new was refusal refl
      (record { after = _; reply = _; row = table_made_row w rows size user 0 m.0; answered = refl }) unmoved m.1

  -- the address of what is no table is refused
  pub table_missed : (call : Call) (addr : ℕ) (goes : Outcome → Table → Type 0) (was : List ℕ) (refusal : Refusal) → new ≡ old
      → ((o : Outcome) → On w o addr (as_table (thing_at w addr)) (goes o) → ByRow w o call)
      → Misses (old.blocks addr) addr kinds.Table (stops.Refused refusal) → IsRefused w call old new was was refusal
  table_missed call addr goes was refusal same row m =
      misnamed_refused w call addr kinds.Table (as_table (thing_at w addr)) goes old new was row
      (no_table old w addr s served.whole.valid)
      unmoved same s served.whole.valid refusal m

  pub dimensions_answered : (addr : ℕ) (told : ℕ × ℕ) → new ≡ old → TellsOfTable (λ t. (t.rows, t.size)) (old.blocks addr) told
      → Answered w (calls.Dimensions addr) new [] (replies.Pair told.0 told.1)
  dimensions_answered addr told same tells =
      let t = table_is_at old w addr s served tells.kind in
      looked w (calls.Dimensions addr) addr (as_table (thing_at w addr)) (λ x. []) (λ x. replies.Pair x.rows x.size) t.table old
      new
      (replies.Pair told.0 told.1) (λ o h. h) (ap as_table t.there)
      (ap (λ (p : ℕ × ℕ). replies.Pair p.0 p.1) (tells.tells (table_row t.table) t.keeps)) refl unmoved same s

  pub table_user_answered : (addr value : ℕ) → new ≡ old → TellsOfTable (λ t. t.user) (old.blocks addr) value
      → Answered w (calls.TableUser addr) new [] (replies.Value value)
  table_user_answered addr value same tells =
      let t = table_is_at old w addr s served tells.kind in
      looked w (calls.TableUser addr) addr (as_table (thing_at w addr)) (λ x. []) (λ x. replies.Value x.user) t.table old new
      (replies.Value value) (λ o h. h) (ap as_table t.there) (ap (λ n. replies.Value n) (tells.tells (table_row t.table) t.keeps))
      refl unmoved same s

  pub table_destroyed : (addr : ℕ) → DestroysTable addr old new → Answered w (calls.TableDestroy addr) new [] replies.Done
  table_destroyed addr destroys =
      let t = table_is_at old w addr s served destroys.kind in
      thing_went w (calls.TableDestroy addr) addr (things.Table t.table) (Gave addr ∷ []) replies.Done old new t.there tt s
      (gave_back w (addr ∷ []) old new unmoved destroys.made) (destroys.changes (table_row t.table) t.keeps)
      (on_some _ _ (as_table (thing_at w addr)) t.table (ap as_table t.there)
      (refl, marks_none (without_thing w addr) (Gave addr ∷ []) refl, refl)) refl

  pub table_undestroyed : (addr : ℕ) (was : List ℕ) (refusal : Refusal) → DestroyStops addr old new (stops.Refused refusal)
      → IsRefused w (calls.TableDestroy addr) old new was was refusal
  table_undestroyed addr was (refusals.BadAddress bad) m =
      table_missed (calls.TableDestroy addr) addr _ was (refusals.BadAddress bad) m.1 (λ o h. h) m.0
  table_undestroyed addr was (refusals.WrongKind bad number) m =
      table_missed (calls.TableDestroy addr) addr _ was (refusals.WrongKind bad number) m.1 (λ o h. h) m.0
  table_undestroyed addr was refusal m =
      let t = table_is_at old w addr s served m.0 in
      full_refused w (calls.TableDestroy addr) old new was refusal refl
      (record {
        to = record { moves = Gave addr ∷ []; after = record (without_thing w addr) { shown = [] }; reply = replies.Done };
        row = on_some _ _ (as_table (thing_at w addr)) t.table (ap as_table t.there) (refl, refl, refl);
        answered = refl;
      }) m.1

  -- a row that a table has
  on_row : (addr row : ℕ) (o : Outcome) (goes : Table → Type 0) (t : IsTableAt old w addr) → row < t.table.rows → goes t.table
      → On w o addr (as_table (thing_at w addr)) (λ table. RefusedIf w o (nat_le table.rows row) (refusals.BadRow row table.rows)
      (goes table))
  on_row addr row o goes t inside goes_on =
      let has : nat_le t.table.rows row ≡ false = grind (arith, nat_tests, inside) in
      on_some _ _ (as_table (thing_at w addr)) t.table (ap as_table t.there) (on_false _ _ _ has goes_on)

  -- and one that it hasn't
  no_row : (addr row rows : ℕ) (goes : Table → Type 0) → IsNoRow (old.blocks addr) row rows
      → On w (record { moves = []; after = w; reply = replies.Refused (refusals.BadRow row rows) }) addr
      (as_table (thing_at w addr))
      (λ table. RefusedIf w (record { moves = []; after = w; reply = replies.Refused (refusals.BadRow row rows) })
      (nat_le table.rows row)
      (refusals.BadRow row table.rows) (goes table))
  no_row addr row rows goes lacks =
      let t = table_is_at old w addr s served lacks.kind in
      let counts = lacks.counts (table_row t.table) t.keeps in
      let none : nat_le t.table.rows row ≡ true = grind (arith, nat_tests, counts, lacks.outside) in
      on_some _ _ (as_table (thing_at w addr)) t.table (ap as_table t.there)
      (on_true _ _ _ none (refl, refl, ap (λ n. replies.Refused (refusals.BadRow row n)) counts))

  pub row_answered : (addr row size : ℕ) (into : List ℕ) → new ≡ old → ReadsRow (old.blocks addr) row size into
      → Answered w (calls.Row addr row) new (take size into) (replies.Bytes size)
  row_answered addr row size into same reads =
      let t = table_is_at old w addr s served reads.has.kind in
      let is = reads.has.is (table_row t.table) t.keeps in
      let few : nat_lt longest_read t.table.size ≡ false = grind (arith, nat_tests, reads.short, is.bytes) in
      let bytes = reads.bytes (table_row t.table) t.keeps in
      unmoved_answered w (record w { shown = take size into }) (calls.Row addr row) new (take size into) (replies.Bytes size)
      (ap (λ (h : Heap). h.moves) same ∙ unmoved)
      (on_row addr row (record { moves = []; after = record w { shown = take size into }; reply = replies.Bytes size }) _ t
      is.inside
      (on_false _ _ _ few (refl, ap (λ (b : List ℕ). record w { shown = b }) bytes, ap (λ n. replies.Bytes n) is.bytes)))
      refl (shows old new w (take size into) same s) refl refl

  pub row_unread : (addr row : ℕ) (was : List ℕ) (refusal : Refusal) → new ≡ old
      → RowStops (old.blocks addr) addr row (stops.Refused refusal)
      → IsRefused w (calls.Row addr row) old new was was refusal
  row_unread addr row was (refusals.BadLength size most) same m = record {
    step =
        let t = table_is_at old w addr s served m.0.kind in
        let is = m.0.is (table_row t.table) t.keeps in
        let many : nat_lt longest_read t.table.size ≡ true = grind (arith, nat_tests, m.2, is.bytes) in
        inl (row_refused w (calls.Row addr row) new (refusals.BadLength size most) (ap (λ (h : Heap). h.moves) same ∙ unmoved)
        (on_row addr row _ _ t is.inside
        (on_true _ _ _ many (refl, refl, λ i. replies.Refused (refusals.BadLength (is.bytes i) (m.1 i))))));
    left = λ reads. same;
    gave = refl;
  }
  row_unread addr row was (refusals.BadRow bad rows) same m = record {
    step = inl (row_refused w (calls.Row addr row) new (refusals.BadRow bad rows) (ap (λ (h : Heap). h.moves) same ∙ unmoved)
        (subst (λ (n : ℕ). ByRow w (record { moves = []; after = w; reply = replies.Refused (refusals.BadRow n rows) })
        (calls.Row addr row)) (sym m.0)
        (no_row addr row rows _ m.1)));
    left = λ reads. same;
    gave = refl;
  }
  row_unread addr row was (refusals.BadAddress bad) same m =
      table_missed (calls.Row addr row) addr _ was (refusals.BadAddress bad) same (λ o h. h) m
  row_unread addr row was (refusals.WrongKind bad number) same m =
      table_missed (calls.Row addr row) addr _ was (refusals.WrongKind bad number) same (λ o h. h) m
  row_unread addr row was refusal same m = absurd m

  -- the table with other bytes in a row
  abbrev set_table : Table → ℕ → List ℕ → Table
  set_table table row from = record table { bytes = overwrite (table.size * row) from table.bytes }

  pub row_set : (addr row : ℕ) (from : List ℕ) → SetsRow addr row from old new
      → Answered w (calls.SetRow addr row from) new [] replies.Done
  row_set addr row from sets =
      let t = table_is_at old w addr s served sets.has.kind in
      let is = sets.has.is (table_row t.table) t.keeps in
      let fits : (length from == t.table.size) ≡ true = grind (arith, nat_tests, is.bytes) in
      thing_changed w (calls.SetRow addr row from) addr (things.Table t.table) (things.Table (set_table t.table row from)) []
      replies.Done old new
      t.there tt tt s (moved_nothing w old new unmoved sets.same) (sets.changes (table_row t.table) t.keeps)
      (on_row addr row _ _ t is.inside
      (on_true _ _ _ fits (refl, marks_none (with_thing w addr (things.Table (set_table t.table row from))) [] refl, refl))) refl

  pub row_unset : (addr row : ℕ) (from was : List ℕ) (refusal : Refusal)
      → SetStops addr row (length from) old new (stops.Refused refusal)
      → IsRefused w (calls.SetRow addr row from) old new was was refusal
  row_unset addr row from was (refusals.BadLength count size) m = record {
    step =
        let t = table_is_at old w addr s served m.1.kind in
        let is = m.1.is (table_row t.table) t.keeps in
        let apart : (length from == t.table.size) ≡ false = grind (arith, nat_tests, m.2, is.bytes) in
        inl (row_refused w (calls.SetRow addr row from) new (refusals.BadLength count size)
        (ap (λ (h : Heap). h.moves) m.3 ∙ unmoved)
        (on_row addr row _ _ t is.inside
        (on_false _ _ _ apart (refl, refl, λ i. replies.Refused (refusals.BadLength (m.0 i) (is.bytes i))))));
    left = λ reads. m.3;
    gave = refl;
  }
  row_unset addr row from was (refusals.LogFull lines room) m =
      let t = table_is_at old w addr s served m.0.kind in
      let is = m.0.is (table_row t.table) t.keeps in
      let fits : (length from == t.table.size) ≡ true = grind (arith, nat_tests, is.bytes) in
      full_refused w (calls.SetRow addr row from) old new was (refusals.LogFull lines room) refl
      (record {
        to = record {
          moves = [];
          after = record (with_thing w addr (things.Table (set_table t.table row from))) { shown = [] };
          reply = replies.Done;
        };
        row = on_row addr row _ _ t is.inside (on_true _ _ _ fits (refl, refl, refl));
        answered = refl;
      }) m.1
  row_unset addr row from was (refusals.BadRow bad rows) m = record {
    step =
        inl (row_refused w (calls.SetRow addr row from) new (refusals.BadRow bad rows) (ap (λ (h : Heap). h.moves) m.1 ∙ unmoved)
        (subst (λ (n : ℕ). ByRow w (record { moves = []; after = w; reply = replies.Refused (refusals.BadRow n rows) })
        (calls.SetRow addr row from))
        (sym m.0.0) (no_row addr row rows _ m.0.1)));
    left = λ reads. m.1;
    gave = refl;
  }
  row_unset addr row from was (refusals.BadAddress bad) m =
      table_missed (calls.SetRow addr row from) addr _ was (refusals.BadAddress bad) m.1 (λ o h. h) m.0
  row_unset addr row from was (refusals.WrongKind bad number) m =
      table_missed (calls.SetRow addr row from) addr _ was (refusals.WrongKind bad number) m.1 (λ o h. h) m.0
  row_unset addr row from was refusal m = absurd m.0
