-- The rows of sources.
use Rattle.std.proofs.Common.{◌≡◌, ℕ, ◌==◌, List, Option, Some, None, is_some, length, nat_lt, true≢false, refl, sym, ap, subst, eqb-true}
use Rattle.law_steps.proofs.ZcoOutcomes.{ZcoOutcome}
use Rattle.sdr_model.specs.Limits.{is_no_path, longest_source}
use Rattle.sdr_model.specs.SourceSteps as source
use Rattle.sdr_model.specs.Valid.{HasBytes}
use Rattle.sdr_model.specs.World.{World, as_raw, thing_at}
use Rattle.sdr_model.specs.Zco.{owned_raw, source_at, source_naming, uses_of}
use Rattle.sdr_model.specs.declared.call.Call.TheVariants as calls
use Rattle.sdr_model.specs.declared.zco.Subject.TheVariants as subjects
use Rattle.law_steps.proofs.OutcomeLemmas.{Comes, asked, found, makes_source, owes_none, refused, tested, told}

pub file_ref : (w : World) (path : List ℕ) (bytes : ℕ)
    → Comes w (calls.FileRef path bytes) (λ o. source.FileRef w o path bytes)
file_ref w path bytes =
    tested (is_no_path (length path)) refused
    (tested (nat_lt longest_source bytes) refused
    (makes_source (owes_none (λ b space. refl) (λ b space. refl) (λ b space. refl))
    (source.new_source (subjects.File path) bytes) refl tt (λ raw no. absurd (true≢false (sym no)))))

pub bulk_ref : (w : World) (item bytes : ℕ) → Comes w (calls.BulkRef item bytes) (λ o. source.BulkRef w o item bytes)
bulk_ref w item bytes =
    tested (nat_lt longest_source bytes) refused
    (makes_source (owes_none (λ b space. refl) (λ b space. refl) (λ b space. refl))
    (source.new_source (subjects.Bulk item) bytes) refl tt (λ raw no. absurd (true≢false (sym no))))

-- a raw object that is there has its bytes
has_bytes : (o : Option (List ℕ)) (text : List ℕ) → o ≡ Some text → HasBytes (length text) o
has_bytes o text is = subst (HasBytes (length text)) (sym is) refl

pub obj_ref : (w : World) (raw : ℕ) → Comes w (calls.ObjRef raw) (λ o. source.ObjRef w o raw)
obj_ref w raw =
    found (as_raw (thing_at w raw)) (λ none. refused) (λ text is.
    found (source_naming w raw)
    (λ none. makes_source (owes_none (λ b space. refl) (λ b space. refl) (λ b space. refl))
    (source.new_source (subjects.Obj raw) (length text)) refl (has_bytes _ text is)
    (λ other same. subst (λ r. source_naming w r ≡ None) (eqb-true raw other same) none))
    (λ s at. refused))

pub destroy_ref : (w : World) (addr : ℕ) → Comes w (calls.DestroyRef addr) (λ o. source.DestroyRef w o addr)
destroy_ref w addr =
    found (source_at w addr) (λ none. refused) (λ s is.
    tested (is_some (owned_raw s)) refused
    (tested s.flagged refused
    (asked (uses_of w addr == 0)
    (λ unused. told (λ o after. ZcoOutcome.drops_source
    (owes_none (λ b space. refl) (λ b space. refl) (λ b space. refl))
    addr s is (eqb-true _ _ unused)
    (ap (λ (v : World). v.things) after) (ap (λ (v : World). v.accounts) after)))
    (λ used. told (λ o after. ZcoOutcome.flags_source (owes_none (λ b space. refl) (λ b space. refl) (λ b space. refl))
    addr s is used
    (ap (λ (v : World). v.things) after) (ap (λ (v : World). v.accounts) after))))))
