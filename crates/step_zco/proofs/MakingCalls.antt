-- Sources of files and items that are made, as steps.
use Rattle.std.proofs.Common.{◌≡◌, ◌∙◌, ◌⊎◌, ◌≤◌, ◌<◌, ◌||◌, ℕ, List, [], ◌∷◌, Bool, true, false, inl, inr, nat_lt, length, refl, sym, ap, subst, arith}
use Rattle.std.proofs.lemmas.Bool.Decides.{nat_tests}
use Rattle.step_things.proofs.RowLemmas.{row_refused, short_refused, took_one}
use Rattle.step_things.specs.Answering.{Answered, IsRefused, IsReady}
use Rattle.sdr_stands.proofs.ChangeLemmas.{nothing_at, part_changed}
use Rattle.sdr_stands.proofs.PartLemmas.{thing_new}
use Rattle.sdr_stands.specs.Rows.{source_row}
use Rattle.sdr_stands.specs.Standing.{HeapStandsFor, with_taken_marked}
use Rattle.sdr_base.specs.Making.{MakesThing}
use Rattle.sdr_base.specs.Objects.{Heap}
use Rattle.sdr_base.specs.Sources.{source_entries}
use Rattle.sdr_base.specs.declared.account.Acct.{Acct}
use Rattle.sdr_base.specs.declared.account.Acct.TheVariants as accts
use Rattle.sdr_base.specs.declared.moves.Move.TheVariants.{Took}
use Rattle.sdr_base.specs.declared.refusal.Refusal.{Refusal}
use Rattle.sdr_base.specs.declared.refusal.Refusal.TheVariants as refusals
use Rattle.sdr_base.specs.declared.stop.Stop.TheVariants as stops
use Rattle.sdr_machine.proofs.WorkLemmas.{on_false, on_true}
use Rattle.sdr_model.specs.Limits.{is_no_path, longest_path, longest_source}
use Rattle.sdr_model.specs.Rows.{ByRow}
use Rattle.sdr_model.specs.SourceSteps.{new_source}
use Rattle.sdr_model.specs.Steps.{Outcome, with_thing}
use Rattle.sdr_model.specs.Things.{source_need}
use Rattle.sdr_model.specs.World.{World}
use Rattle.sdr_model.specs.Zco.{as_source, count_of, is_of_raw}
use Rattle.sdr_model.specs.declared.answer.Reply.TheVariants as replies
use Rattle.sdr_model.specs.declared.call.Call.{Call}
use Rattle.sdr_model.specs.declared.call.Call.TheVariants as calls
use Rattle.sdr_model.specs.declared.things.Thing.TheVariants as things
use Rattle.sdr_model.specs.declared.zco.Subject.TheVariants as subjects
use Rattle.sdr_model.specs.declared.zco.ZcoSource.{ZcoSource}
use Rattle.zco_ref.specs.Making.{BulkStops, FileStops, IsNoPath, IsPathLength, IsTooLong, MakesBulk, MakesFile}
use Rattle.step_zco.proofs.StepLemmas.{IsFree, answered_later, roots_kept}
use Rattle.step_zco.proofs.UsesLemmas.{none_counted}

-- a source was made at an address
abbrev pub source_outcome : World → ℕ → ZcoSource → ℕ → Outcome
source_outcome w need s addr = record {
  moves = Took need addr ∷ [];
  after = with_taken_marked (with_thing w addr (things.Source s)) (Took need addr ∷ []);
  reply = replies.At addr;
}

-- the row of a source of a file
path_fits : (n : ℕ) → IsPathLength n → is_no_path n ≡ false
path_fits n fits =
    let some = fits.some in
    let short = fits.short in
    let a : nat_lt n 1 ≡ false = grind (arith, nat_tests, some) in
    let b : nat_lt longest_path n ≡ false = grind (arith, nat_tests, short) in
    ap (λ (t : Bool). t || nat_lt longest_path n) a ∙ b

bytes_fit : (n : ℕ) → n ≤ longest_source → nat_lt longest_source n ≡ false
bytes_fit n short = grind (arith, nat_tests, short)

file_made_row : (w : World) (path : List ℕ) (bytes addr : ℕ) → IsPathLength (length path) → bytes ≤ longest_source →
    ByRow w (source_outcome w (source_need (length path)) (new_source (subjects.File path) bytes) addr) (calls.FileRef path bytes)
file_made_row w path bytes addr fits short =
    on_false _ _ _ (path_fits (length path) fits) (on_false _ _ _ (bytes_fit bytes short) (refl, (refl, refl)))

bulk_made_row : (w : World) (item bytes addr : ℕ) → bytes ≤ longest_source →
    ByRow w (source_outcome w (source_need 0) (new_source (subjects.Bulk item) bytes) addr) (calls.BulkRef item bytes)
bulk_made_row w item bytes addr short = on_false _ _ _ (bytes_fit bytes short) (refl, (refl, refl))

-- a refusal for a length
refused_as : (bad most count longest : ℕ) → bad ≡ count → most ≡ longest →
    replies.Refused (refusals.BadLength bad most) ≡ replies.Refused (refusals.BadLength count longest)
refused_as bad most count longest p q = λ i. replies.Refused (refusals.BadLength (p i) (q i))

no_path : (n : ℕ) → (n ≡ 0) ⊎ (255 < n) → is_no_path n ≡ true
no_path n (inl none) =
    let a : nat_lt n 1 ≡ true = grind (arith, nat_tests, none) in ap (λ (t : Bool). t || nat_lt longest_path n) a
no_path n (inr above) =
    let a : nat_lt n 1 ≡ false = grind (arith, nat_tests, above) in
    let b : nat_lt longest_path n ≡ true = grind (arith, nat_tests, above) in
    ap (λ (t : Bool). t || nat_lt longest_path n) a ∙ b

too_long : (n : ℕ) → longest_source < n → nat_lt longest_source n ≡ true
too_long n above = grind (arith, nat_tests, above)

-- a call on a heap that stands for a world in which it is served
module _ (old new : Heap) (w : World) (unmoved : old.moves ≡ []) (s : HeapStandsFor old w) (served : IsReady w) where
  -- a source that names no raw object was made
  made : (call : Call) (need addr : ℕ) (source : ZcoSource) → IsFree w call →
      ((raw : ℕ) → is_of_raw raw source.subject ≡ false) →
      MakesThing need addr (source_entries addr 0 0 (source_row source)) old new →
      ByRow w (source_outcome w need source addr) call → Answered w call new [] (replies.At addr)
  made call need addr source free nameless m row =
      let thing = things.Source source in
      let moves = Took need addr ∷ [] in
      let none = nothing_at addr s m.adds.fresh in
      let zero = λ (acct : Acct). none_counted w addr acct served.whole.fits (ap as_source none) in
      let t = took_one w need addr old new s served.whole.valid unmoved m.adds.fresh m.adds.nonzero m.adds.small m.made in
      let counted : MakesThing need addr
      (source_entries addr (count_of w addr accts.Inbound) (count_of w addr accts.Outbound) (source_row source)) old new =
      subst (λ (n : ℕ). MakesThing need addr (source_entries addr n (count_of w addr accts.Outbound) (source_row source)) old new)
      (sym (zero accts.Inbound))
      (subst (λ (n : ℕ). MakesThing need addr (source_entries addr 0 n (source_row source)) old new) (sym (zero accts.Outbound)) m) in
      answered_later w (with_thing w addr thing).things call moves (replies.At addr) served.whole t.has.fresh row refl t.has.is
      t.has.words
      (part_changed (with_thing w addr thing) moves s
      (thing_new w addr thing none (record { raws = λ raw. sym (nameless raw); sources = λ q acct. refl }))
      counted.adds.changes m.made
      (roots_kept w (with_thing w addr thing).things call moves (replies.At addr) served.whole t.has.fresh row refl free) refl)

  pub file_made : (path : List ℕ) (bytes addr : ℕ) → MakesFile path bytes addr old new →
      Answered w (calls.FileRef path bytes) new [] (replies.At addr)
  file_made path bytes addr m =
      made (calls.FileRef path bytes) (source_need (length path)) addr (new_source (subjects.File path) bytes)
      (record { charge = λ acct space. omega arith; release = λ acct space. refl }) (λ raw. refl) m.makes
      (file_made_row w path bytes addr m.path_length m.short)

  pub bulk_made : (item bytes addr : ℕ) → MakesBulk item bytes addr old new →
      Answered w (calls.BulkRef item bytes) new [] (replies.At addr)
  bulk_made item bytes addr m =
      made (calls.BulkRef item bytes) (source_need 0) addr (new_source (subjects.Bulk item) bytes)
      (record { charge = λ acct space. omega arith; release = λ acct space. refl }) (λ raw. refl) m.makes
      (bulk_made_row w item bytes addr m.short)

  -- the length is refused
  length_refused : (call : Call) (bad most : ℕ) (was : List ℕ) → new ≡ old →
      ByRow w (record { moves = []; after = w; reply = replies.Refused (refusals.BadLength bad most) }) call →
      IsRefused w call old new was was (refusals.BadLength bad most)
  length_refused call bad most was same row = record {
    step = inl (row_refused w call new (refusals.BadLength bad most) (ap (λ (h : Heap). h.moves) same ∙ unmoved) row);
    left = λ reads. same;
    gave = refl;
  }

  pub file_unmade : (path : List ℕ) (bytes : ℕ) (was : List ℕ) (refusal : Refusal) → FileStops path bytes old new (stops.Refused refusal) →
      IsRefused w (calls.FileRef path bytes) old new was was refusal
  file_unmade path bytes was (refusals.BadLength bad most) m = by m.0
    where
      by : IsNoPath (length path) bad most ⊎ (IsPathLength (length path) × IsTooLong bytes bad most) →
          IsRefused w (calls.FileRef path bytes) old new was was (refusals.BadLength bad most)
      by (inl p) =
          length_refused (calls.FileRef path bytes) bad most was m.1
          (on_true _ _ _ (no_path (length path) p.2) (refl, refl, refused_as bad most (length path) longest_path p.0 p.1))
      by (inr p) =
          length_refused (calls.FileRef path bytes) bad most was m.1
          (on_false _ _ _ (path_fits (length path) p.0)
          (on_true _ _ _ (too_long bytes p.1.2) (refl, refl, refused_as bad most bytes longest_source p.1.0 p.1.1)))
  file_unmade path bytes was refusal m =
      short_refused w (calls.FileRef path bytes) (source_need (length path)) old new was refusal refl
      (record { after = _; reply = _; row = file_made_row w path bytes 0 m.0 m.1; answered = refl }) unmoved m.2

  pub bulk_unmade : (item bytes : ℕ) (was : List ℕ) (refusal : Refusal) → BulkStops bytes old new (stops.Refused refusal) →
      IsRefused w (calls.BulkRef item bytes) old new was was refusal
  bulk_unmade item bytes was (refusals.BadLength bad most) m =
      length_refused (calls.BulkRef item bytes) bad most was m.1
      (on_true _ _ _ (too_long bytes m.0.2) (refl, refl, refused_as bad most bytes longest_source m.0.0 m.0.1))
  bulk_unmade item bytes was refusal m =
      short_refused w (calls.BulkRef item bytes) (source_need 0) old new was refusal refl
      (record { after = _; reply = _; row = bulk_made_row w item bytes 0 m.0; answered = refl }) unmoved m.1
