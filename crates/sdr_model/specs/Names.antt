-- The catalogue's list of entries.
use Rattle.sdr_model.specs.declared.name.Name.{Name}
use Rattle.std.specs.Cmp.Lexicographic.{pointwise}
use Rattle.std.specs.Coded.{Coded, code_by, coded×, coded_ℕ, coded_list}
use Rattle.std.specs.Prelude.{ℕ, List, [], ◌∷◌, Option, None, Some, nat_eq, if◌then◌else◌, refl}

-- the entry of a name
abbrev pub name_of : List Name → List ℕ → Option Name
name_of [] name = None
name_of (n ∷ names) name = if pointwise nat_eq name n.name then Some n else name_of names name

-- a name as numbers and a list
abbrev pub coded_name : Coded Name
coded_name = code_by (ℕ × (List ℕ × (ℕ × ℕ))) (coded× coded_ℕ (coded× (coded_list coded_ℕ) (coded× coded_ℕ coded_ℕ)))
    (λ n. (n.block, (n.name, (n.kind, n.object))))
    (λ p. record { block = p.0; name = p.1.0; kind = p.1.1.0; object = p.1.1.1 })
    (λ _. refl)

-- the entries without that of a name
abbrev pub without_name : List Name → List ℕ → List Name
without_name [] name = []
without_name (n ∷ names) name = if pointwise nat_eq name n.name then names else n ∷ without_name names name
