-- Worlds, grounds and runs in memory as their parts.
use Rattle.std.specs.Prelude.{ℕ, refl}
use Rattle.std.specs.Coded.{Coded, code_by, coded×, coded_ℕ}
use Rattle.sdr_machine.specs.CodedRoll.{coded_roll}
use Rattle.sdr_machine.specs.Roll.{Roll}
use Rattle.sdr_model.specs.World.{World, coded_world}
use Rattle.mem_machine.specs.Memory.{InMemory, Worlds}
use Rattle.mem_machine.specs.MemoryRun.{MemoryRun}
use Rattle.mem_machine.specs.Plain.{Plain}

-- two worlds as a pair
abbrev pub coded_worlds : Coded Worlds
coded_worlds = code_by (World × World) (coded× coded_world coded_world) (λ w. (w.begun, w.now)) (λ p. record { begun = p.0; now = p.1 }) (λ _. refl)

-- worlds with their media as a pair
abbrev pub coded_in_memory : {M : Type 0} → Coded M → Coded (InMemory M)
coded_in_memory {M} code = code_by (Worlds × M) (coded× coded_worlds code) (λ m. (m.worlds, m.media)) (λ p. record { worlds = p.0; media = p.1 }) (λ _. refl)

-- a run as its parts
abbrev pub coded_run : {M : Type 0} → Coded M → Coded (MemoryRun M)
coded_run {M} code = code_by (Roll × (Worlds × M)) (coded× coded_roll (coded× coded_worlds code)) (λ k. (k.roll, (k.worlds, k.media)))
    (λ p. record { roll = p.0; worlds = p.1.0; media = p.1.1 }) (λ _. refl)

-- a plain machine as its parts
abbrev pub coded_plain : Coded Plain
coded_plain = code_by (Roll × (Worlds × ℕ)) (coded× coded_roll (coded× coded_worlds coded_ℕ)) (λ p. (p.roll, (p.worlds, p.events)))
    (λ p. record { roll = p.0; worlds = p.1.0; events = p.1.1 }) (λ _. refl)
