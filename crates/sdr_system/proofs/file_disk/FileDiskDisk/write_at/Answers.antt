use Rattle.std.proofs.Common.{◌≡◌, List, [], ◌∷◌, ℕ, arith, length, rules, subst, sym}
use Rattle.sdr_base.specs.Parts.{overwrite}
use Rattle.sdr_disk.specs.Ranges.{Agrees, range}
use Rattle.sdr_disk.proofs.RangesLemmas.{Agrees-overwrite}
use Rattle.sdr_system.proofs.UntoldLemmas.{writes_untold}
use Rattle.sdr_system.proofs.file_disk.FileDiskDisk.write_at.Goals as goal

pub returns-in_err-end-clause-moments : goal.returns-in_err-end-clause-moments
returns-in_err-end-clause-moments g c = writes_untold _ _ _ _ _ (grind arith) (grind arith)

pub returns-clause-others : goal.returns-clause-others
returns-clause-others g c =
    let made : c.overwrite.new.self ≡ overwrite c.args.place c.args.from.now c.args.self.now.bytes = search rules in
    subst (Agrees (range c.args.place (length c.args.from.now) ∷ []) c.args.self.now.bytes) (sym made)
    (Agrees-overwrite c.args.place c.args.from.now c.args.self.now.bytes [] c.requires)

pub returns-clause-moments : goal.returns-clause-moments
returns-clause-moments g c = writes_untold _ _ _ _ _ (grind arith) (grind arith)
