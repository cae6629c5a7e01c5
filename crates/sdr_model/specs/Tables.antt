-- Tables.
use Rattle.std.specs.Prelude.{ℕ, List, refl}
use Rattle.std.specs.Coded.{Coded, code_by, coded×, coded_ℕ, coded_list}

-- a table: the user's number, the count of its rows, the bytes of a row, and the rows one after another
pub record Table : Type 0 where
  pub user : ℕ
  pub rows : ℕ
  pub size : ℕ
  pub bytes : List ℕ

-- a table as its parts
abbrev pub coded_table : Coded Table
coded_table = code_by (ℕ × (ℕ × (ℕ × List ℕ))) (coded× coded_ℕ (coded× coded_ℕ (coded× coded_ℕ (coded_list coded_ℕ))))
    (λ t. (t.user, (t.rows, (t.size, t.bytes))))
    (λ p. record { user = p.0; rows = p.1.0; size = p.1.1.0; bytes = p.1.1.1 })
    (λ _. refl)
