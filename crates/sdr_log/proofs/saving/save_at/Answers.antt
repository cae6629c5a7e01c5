use Rattle.std.proofs.Common.{inl, inr, ⊎_elim, arith}
use Rattle.sdr_log.proofs.saving.save_at.Goals as goal

pub returns-in_err-write_at-clause-made : goal.returns-in_err-write_at-clause-made
returns-in_err-write_at-clause-made g c = ⊎_elim (λ rises. inl (omega (arith, rises))) (λ reads. inr reads) c.write_at.ensures.made

pub returns-clause-made : goal.returns-clause-made
returns-clause-made g c = inl (omega (arith, c.in_ok-write_at.ensures.rises, c.sync.ensures.moments.later))
