-- What is said only of a disk that tells what a crash may leave of it.
use Rattle.std.specs.Prelude.{◌≡◌, Bool, true}

-- where the disk tells what a crash may leave, this holds
abbrev pub IfTells : Bool → Type 0 → Type 0
IfTells tells P = tells ≡ true → P
