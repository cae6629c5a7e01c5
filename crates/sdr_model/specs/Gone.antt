-- Extents that go, and what goes with them.
use Rattle.std.specs.Prelude.{ℕ, ◌==◌, ◌&&◌, ◌||◌, List, [], ◌∷◌, ◌++◌, Bool, not, is_some, Option, None, Some, if◌then◌else◌}
use Rattle.std.specs.List.{list_any}
use Rattle.std.specs.Option.{option_to_list}
use Rattle.sdr_model.specs.Steps.{without_thing}
use Rattle.sdr_model.specs.World.{World}
use Rattle.sdr_model.specs.Zco.{naming, owned_raw, source_at, uses_of}
use Rattle.sdr_model.specs.declared.zco.Extent.{Extent}
use Rattle.sdr_model.specs.declared.zco.ZcoSource.{ZcoSource}

-- whether the source goes with the last extent that names it: it has taken over a raw object, or it is flagged
abbrev pub is_passing : ZcoSource → Bool
is_passing source = is_some (owned_raw source) || source.flagged

-- whether one of these extents names a source
abbrev pub names_source : ℕ → List Extent → Bool
names_source source = list_any (λ e. e.source == source)

-- Of the extents `all` that go, this one goes before those `later`. It is the last one of all that names its source.
abbrev pub is_last_use : World → List Extent → List Extent → Extent → Bool
is_last_use w all later e = uses_of w e.source == naming e.source all && not (names_source e.source later)

-- the addresses of a passing source and of the raw object that it has taken over, which goes before it
abbrev pub source_blocks : ℕ → Option ZcoSource → List ℕ
source_blocks addr None = []
source_blocks addr (Some source) = if is_passing source then option_to_list (owned_raw source) ++ addr ∷ [] else []

-- the things that go with an extent, before it
abbrev pub gone_with : World → List Extent → List Extent → Extent → List ℕ
gone_with w all later e = if is_last_use w all later e then source_blocks e.source (source_at w e.source) else []

-- the things that go with these extents, of all that go
abbrev pub gone_things : World → List Extent → List Extent → List ℕ
gone_things w all [] = []
gone_things w all (e ∷ es) = gone_with w all es e ++ gone_things w all es

-- the blocks that are given back where these extents go, of all that go: what goes with each before its own
abbrev pub gone_blocks : World → List Extent → List Extent → List ℕ
gone_blocks w all [] = []
gone_blocks w all (e ∷ es) = gone_with w all es e ++ e.block ∷ gone_blocks w all es

-- the world without the things at these addresses
abbrev pub without_things : World → List ℕ → World
without_things w [] = w
without_things w (addr ∷ addrs) = without_things (without_thing w addr) addrs
