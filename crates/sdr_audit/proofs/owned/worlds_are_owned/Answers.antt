use Rattle.std.proofs.Common.{length, ◌/◌}
use Rattle.audit_owners.proofs.LawLemmas.{not_wrong}
use Rattle.audit_owners.specs.View.{view_in}
use Rattle.sdr_audit.proofs.ControlLemmas.{region}
use Rattle.sdr_audit.proofs.WorldLemmas.{world_owned}
use Rattle.sdr_audit.proofs.owned.worlds_are_owned.Goals as goal

pub returns-clause-owned : goal.returns-clause-owned
returns-clause-owned c bytes w P stands = world_owned bytes w P (region bytes w P stands) stands

pub returns-clause-right : goal.returns-clause-right
returns-clause-right c bytes w P place stands wrong =
    not_wrong (view_in bytes) (length bytes / 8) place (world_owned bytes w P (region bytes w P stands) stands) wrong
