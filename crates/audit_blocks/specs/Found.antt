-- What was found wrong so far.
use Rattle.std.specs.Prelude.{◌==◌, ◌&&◌, ℕ, Bool, false, cond, not, Option, None, Some}
use Rattle.std.specs.Option.{option_or}
use Rattle.audit_blocks.specs.Labels.{fits_small, has_enough, is_led, label_empty}
use Rattle.audit_blocks.specs.declared.findings.Findings.{Findings}
use Rattle.audit_blocks.specs.declared.label.Label.{Label}

-- nothing is wrong so far
abbrev pub no_findings : Findings
no_findings = record { unfit = None; full = None; touching = None; edge = None; after_free = false }

-- what was found first, or else this place where it isn't right
abbrev pub with_found : Option ℕ → Bool → ℕ → Option ℕ
with_found found right place = option_or found (cond right None (Some place))

-- the first of all that was found
abbrev pub first_found : Findings → Option ℕ
first_found found = option_or (option_or (option_or found.unfit found.full) found.touching) found.edge

-- what was found behind the small block with this leader at a place
abbrev pub with_small : Findings → Label → ℕ → Findings
with_small found label place = record found {
  unfit = with_found found.unfit (fits_small label) place;
  full = with_found found.full (label_empty label) place;
}

-- what was found behind the large block with this leader at a place, where large blocks begin at `high`
abbrev pub with_large : Findings → Label → ℕ → ℕ → Findings
with_large found label place high = record {
  unfit = with_found found.unfit (has_enough label) place;
  full = with_found found.full (label_empty label) place;
  touching = with_found found.touching (not (found.after_free && not (is_led label))) place;
  edge = with_found found.edge (not (place == high && not (is_led label))) place;
  after_free = not (is_led label);
}
