use Rattle.std.proofs.Common.{◌≡◌, ◌+◌, ◌-◌, ◌∙◌, ℕ, min, drop, get_or, length, take, arith, ap, length-drop}
use Rattle.audit_owners.proofs.BlockLemmas.{take_within}
use Rattle.audit_owners.proofs.texts.name_in.Goals as goal

pub returns : goal.returns
returns c =
    let bytes = c.args.bytes.now in
    let long = length-drop 25 bytes in
    let count = c.min-count.ensures in
    let told = c.from.ensures in
    let e : 25 + c.min-count.result - 25 ≡ min (get_or bytes 24 0) (length (drop 25 bytes)) = omega (arith, long, count, told) in
    ap (λ (n : ℕ). take n (drop 25 bytes)) e ∙ take_within (get_or bytes 24 0) (drop 25 bytes)
