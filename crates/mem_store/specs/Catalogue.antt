-- The catalogue in the making.
use Rattle.std.specs.Prelude.{◌≤◌, List, length, take, refl}
use Rattle.std.specs.Coded.{Coded, code_by, coded×, coded_list}
use Rattle.sdr_model.specs.Names.{coded_name}
use Rattle.mem_store.specs.declared.catalogue.KeptNames.{KeptNames}
use Rattle.mem_store.specs.declared.catalogue.KeptNames.TheVariants as kept
use Rattle.sdr_model.specs.declared.name.Name.{Name}

-- the entries at the begin of the open transaction, and the entries now
pub record Catalogue : Type 0 where
  pub begun : List Name
  pub now : List Name

-- a catalogue as its parts
abbrev pub coded_catalogue : Coded Catalogue
coded_catalogue = code_by (List Name × List Name) (coded× (coded_list coded_name) (coded_list coded_name))
    (λ c. (c.begun, c.now)) (λ p. record { begun = p.0; now = p.1 }) (λ _. refl)

-- the entries that were kept, where these are there now
abbrev pub names_kept : List Name → KeptNames → List Name
names_kept names (kept.Front len) = take len names
names_kept names (kept.All all) = all

-- a front that was kept is there
abbrev pub HasFront : List Name → KeptNames → Type 0
HasFront names (kept.Front len) = len ≤ length names
HasFront names (kept.All all) = Unit {0}
