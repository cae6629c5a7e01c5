-- Each row of sources, objects, accounts and tickets comes to one of their outcomes.
use Rattle.std.proofs.Common.{Some, length, refl}
use Rattle.std.specs.Prelude.{slice_get}
use Rattle.sdr_base.specs.declared.kind.Space.TheVariants as spaces
use Rattle.law_steps.proofs.PlainRows.{IsZcoCall}
use Rattle.law_steps.proofs.ZcoOutcomes.{ZcoOutcome}
use Rattle.law_steps.specs.Charged.{charge_less}
use Rattle.sdr_model.specs.Amounts.{in_space}
use Rattle.sdr_model.specs.Charges.{capsule_bytes}
use Rattle.sdr_model.specs.ObjectSteps as object
use Rattle.sdr_model.specs.Rows.{ByRow}
use Rattle.sdr_model.specs.Steps.{Outcome}
use Rattle.sdr_model.specs.World.{World}
use Rattle.sdr_model.specs.Zco.{object_at}
use Rattle.sdr_model.specs.declared.call.Call.{Call}
use Rattle.sdr_model.specs.declared.call.Call.TheVariants as calls
use Rattle.law_steps.proofs.OutcomeLemmas.{found, object_owes, owes_charge, owes_release, refused}
use Rattle.law_steps.proofs.SourceRows.{bulk_ref, destroy_ref, file_ref, obj_ref}
use Rattle.law_steps.proofs.AccountRows.{request, set_maximum, shred}
use Rattle.law_steps.proofs.ObjectRows.{adds_capsule, appends, create, discards, first_less, header_charge, last_less, trailer_charge}
use Rattle.law_steps.proofs.PartRows.{bonding, clones, delimits, destroys, strips}

-- such a row comes to one of the outcomes
pub zco_row : (w : World) (call : Call) → IsZcoCall call → (o : Outcome) → ByRow w o call → ZcoOutcome w call o
zco_row w (calls.FileRef path bytes) is = (file_ref w path bytes).comes
zco_row w (calls.BulkRef item bytes) is = (bulk_ref w item bytes).comes
zco_row w (calls.ObjRef raw) is = (obj_ref w raw).comes
zco_row w (calls.DestroyRef addr) is = (destroy_ref w addr).comes
zco_row w (calls.SetMaximum acct space value) is = (set_maximum w acct space value).comes
zco_row w (calls.Create acct ticket) is = (create w acct ticket).comes
zco_row w (calls.AppendExtent addr ticket named offset bytes) is = (appends w addr ticket named offset bytes).comes
zco_row w (calls.PrependHeader addr ticket text) is =
    (adds_capsule w (calls.PrependHeader addr ticket text) addr ticket text object.with_header (λ z c. (refl, refl))
    header_charge refl (λ z was. owes_charge (λ b space. object_owes w addr z
    (λ z. in_space spaces.Heap (capsule_bytes (length text))) was b space) (λ b space. refl) (λ b space. refl))).comes
zco_row w (calls.AppendTrailer addr ticket text) is =
    (adds_capsule w (calls.AppendTrailer addr ticket text) addr ticket text object.with_trailer (λ z c. (refl, refl))
    trailer_charge refl (λ z was. owes_charge (λ b space. object_owes w addr z
    (λ z. in_space spaces.Heap (capsule_bytes (length text))) was b space) (λ b space. refl) (λ b space. refl))).comes
zco_row w (calls.DiscardFirstHeader addr) is = (found (object_at w addr) (λ none. refused) (λ z was.
    discards w (calls.DiscardFirstHeader addr) addr z (object.without_header z)
    (slice_get z.headers 0) was refl refl (first_less z)
    (owes_release (λ b space. refl)
    (λ b space. object_owes w addr z (λ z. charge_less z (Some (object.without_header z))) was b space)
    (λ b space. refl)))).comes
zco_row w (calls.DiscardLastTrailer addr) is = (found (object_at w addr) (λ none. refused) (λ z was.
    discards w (calls.DiscardLastTrailer addr) addr z (object.without_trailer z)
    (object.last_capsule z.trailers) was refl refl (last_less z)
    (owes_release (λ b space. refl)
    (λ b space. object_owes w addr z (λ z. charge_less z (Some (object.without_trailer z))) was b space)
    (λ b space. refl)))).comes
zco_row w (calls.Bond addr ticket) is = (bonding w addr ticket).comes
zco_row w (calls.ClonePart addr ticket offset bytes) is = (clones w addr ticket offset bytes).comes
zco_row w (calls.Delimit addr offset bytes) is = (delimits w addr offset bytes).comes
zco_row w (calls.Strip addr) is = (strips w addr).comes
zco_row w (calls.Destroy addr) is = (destroys w addr).comes
zco_row w (calls.Request acct file bulk heap coarse fine) is =
    (request w acct file bulk heap coarse fine).comes
zco_row w (calls.Shred ticket) is = (shred w ticket).comes
zco_row w call is = absurd is
