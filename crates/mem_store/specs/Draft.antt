-- A world in the making.
use Rattle.sdr_model.specs.Things.{Owners}
use Rattle.sdr_model.specs.World.{World, coded_world}
use Rattle.std.specs.Coded.{Coded, code_by, coded×, coded_ℕ, coded_bool, coded_list}
use Rattle.std.specs.FinMap as finite
use Rattle.std.specs.Prelude.{ℕ, Bool, List, refl}

-- the world at the begin of the open transaction, the world now, the addresses that were touched since, which thing each
-- block inside one belongs to, and whether the accounts were copied, so that they may be changed
pub record Draft : Type 0 where
  pub begun : World
  pub now : World
  pub touched : List ℕ
  pub owners : Owners
  pub saved : Bool

-- a draft as its parts
abbrev pub coded_draft : Coded Draft
coded_draft = code_by (World × (World × (List ℕ × (Owners × Bool))))
    (coded× coded_world (coded× coded_world (coded× (coded_list coded_ℕ) (coded× (finite.code coded_ℕ coded_ℕ) coded_bool))))
    (λ d. (d.begun, (d.now, (d.touched, (d.owners, d.saved)))))
    (λ p. record { begun = p.0; now = p.1.0; touched = p.1.1.0; owners = p.1.1.1.0; saved = p.1.1.1.1 })
    (λ _. refl)
