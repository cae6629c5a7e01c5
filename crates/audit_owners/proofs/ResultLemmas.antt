-- What holds of a result, said otherwise.
use Rattle.std.proofs.Common.{◌≡◌, subst, sym}
use Rattle.std.specs.Prelude.{Err, IfErr, Ok, OnOk, Result}
use Rattle.std.specs.Result.{IsErrAnd}
use Rattle.audit_owners.specs.declared.error.Wrong.{Wrong}

-- what a step that answered comes to
pub on_ok : {T E : Type 0} (P Q : Type 0) (result : Result T E) → (P → Q) → OnOk result P → OnOk result Q
on_ok P Q (Ok value) then_so holds = then_so holds
on_ok P Q (Err error) then_so holds = tt

-- what is wrong, is wrong so too
pub if_err : {T : Type 0} (P Q : Wrong → Type 0) (result : Result T Wrong) → ((wrong : Wrong) → P wrong → Q wrong) → IfErr result P → IfErr result Q
if_err P Q (Ok value) then_so holds = tt
if_err P Q (Err wrong) then_so holds = then_so wrong holds

-- what holds of what is wrong holds where it is handed on
pub error_same : {T : Type 0} (P : Wrong → Type 0) {wrong : Wrong} (result : Result T Wrong) → IsErrAnd result (λ other. other ≡ wrong) → P wrong →
    IfErr result P
error_same P (Ok value) is holds = absurd is
error_same P (Err other) is holds = subst P (sym is) holds
