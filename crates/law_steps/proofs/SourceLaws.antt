-- Every step leaves sources and extents that fit each other.
use Rattle.std.proofs.Common.{◌≡◌, inl, inr, ℕ, zero, suc, ◌≤◌, ◌==◌, List, false, true≢false, sym, subst, arith}
use Rattle.sdr_base.specs.declared.moves.Move.{Move}
use Rattle.law_steps.proofs.Effects.{IsFresh}
use Rattle.law_steps.proofs.PlainRows.{row_change}
use Rattle.law_steps.proofs.FitChanges.{fits_dropped, fits_flagged}
use Rattle.law_steps.proofs.SourceViews.{Fits, NoSpare, fits_from, fits_to}
use Rattle.law_steps.proofs.ZcoOutcomes.{ZcoOutcome}
use Rattle.law_steps.proofs.ZcoRows.{zco_row}
use Rattle.law_steps.specs.Fresh.{AreFresh}
use Rattle.sdr_model.specs.Blocks.{addresses_of, blocks_of}
use Rattle.sdr_model.specs.Rows.{ByRow}
use Rattle.sdr_model.specs.Step.{Step}
use Rattle.sdr_model.specs.Steps.{Outcome}
use Rattle.sdr_model.specs.Valid.{FitTogether, IsValid}
use Rattle.sdr_model.specs.World.{World}
use Rattle.sdr_model.specs.Zco.{uses_of}
use Rattle.sdr_model.specs.declared.answer.Reply.{Reply}
use Rattle.sdr_model.specs.declared.call.Call.{Call}
use Rattle.law_steps.proofs.OutcomeFits.{bonds_fit, drops_fit, object_fits, over_fits, plain_fits, shape_fits, source_fits}

zco_fits : {w : World} {call : Call} {o : Outcome} → IsValid w → FitTogether w → IsFresh w o → ZcoOutcome w call o
    → Fits o.after.things NoSpare
zco_fits {w} valid fit fresh (ZcoOutcome.refuses answer is) =
    subst (λ (v : World). Fits v.things NoSpare) (sym is) (fits_from w fit)
zco_fits {w} valid fit fresh (ZcoOutcome.makes_source owes n is) = source_fits (fits_from w fit) fresh n
zco_fits {w} valid fit fresh (ZcoOutcome.drops_source owes addr s was unused things is) =
    subst (λ m. Fits m NoSpare) (sym things)
    (fits_dropped w.things NoSpare (fits_from w fit) addr s was unused NoSpare (λ q apart spare. spare))
zco_fits {w} valid fit fresh (ZcoOutcome.flags_source owes addr s was used things is) =
    subst (λ m. Fits m NoSpare) (sym things)
    (fits_flagged w.things NoSpare (fits_from w fit) addr s was (some_uses (uses_of w addr) used))
  where
    some_uses : (n : ℕ) → (n == 0) ≡ false → 1 ≤ n
    some_uses zero e = absurd (true≢false e)
    some_uses (suc n) e = omega arith
zco_fits {w} valid fit fresh (ZcoOutcome.serves_queue acct lost owes things change) =
    subst (λ m. Fits m NoSpare) (sym things) (fits_from w fit)
zco_fits {w} valid fit fresh (ZcoOutcome.makes_object n) = object_fits (fits_from w fit) fresh n fit
zco_fits {w} valid fit fresh (ZcoOutcome.reshapes n) = shape_fits (fits_from w fit) fresh n
zco_fits {w} valid fit fresh (ZcoOutcome.takes_over n) = over_fits (fits_from w fit) fresh n
zco_fits {w} valid fit fresh (ZcoOutcome.bonds n) = bonds_fit (fits_from w fit) fresh valid n
zco_fits {w} valid fit fresh (ZcoOutcome.drops n) = drops_fit (fits_from w fit) fresh n

row_fits : (w : World) (call : Call) (o : Outcome) → IsValid w → FitTogether w → IsFresh w o → ByRow w o call
    → Fits o.after.things NoSpare
row_fits w call o valid fit fresh row =
    row_change w call o row (λ other plain. plain_fits (fits_from w fit) fresh plain)
    (λ is. zco_fits valid fit fresh (zco_row w call is o row))

-- A step leaves sources and extents that fit each other.
pub sources_kept : (w w' : World) (call : Call) (moves : List Move) (reply : Reply) → IsValid w → FitTogether w
    → AreFresh (addresses_of (blocks_of w)) moves → Step w call moves w' reply → FitTogether w'
sources_kept w w' call moves reply valid fit fresh (inl row) =
    fits_to w' (row_fits w call (record { moves = moves; after = w'; reply = reply }) valid fit fresh row)
sources_kept w w' call moves reply valid fit fresh (inr stops) = subst FitTogether (sym stops.same) fit
