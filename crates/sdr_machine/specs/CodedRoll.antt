-- The roll as its parts.
use Rattle.std.specs.Prelude.{ℕ, List, Option, refl}
use Rattle.std.specs.Coded.{Coded, code_by, coded×, coded_ℕ, coded_list, coded_option}
use Rattle.sdr_machine.specs.Roll.{Roll}
use Rattle.sdr_machine.specs.contracts.daemon.Daemon as daemon
use Rattle.sdr_machine.specs.declared.daemon.Daemon.{Daemon}

-- a roll as its parts
abbrev pub coded_roll : Coded Roll
coded_roll = code_by (List Daemon × (ℕ × Option ℕ))
    (coded× (coded_list daemon.the_row.coded) (coded× coded_ℕ (coded_option coded_ℕ)))
    (λ r. (r.daemons, (r.drawn, r.failed)))
    (λ p. record { daemons = p.0; drawn = p.1.0; failed = p.1.1 })
    (λ _. refl)
