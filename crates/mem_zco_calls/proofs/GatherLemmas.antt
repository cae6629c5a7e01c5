-- Pieces that are gathered one after another.
use Rattle.mem_zco_calls.specs.Gathers.{Gathers}
use Rattle.sdr_model.specs.Pieces.{cut_pieces, piece_length, piece_part}
use Rattle.mem_zco_calls.specs.declared.wire.Gathering.{Gathering}
use Rattle.sdr_model.specs.declared.piece.Piece.{Piece}
use Rattle.std.proofs.Common.{◌≡◌, ◌==◌, ◌-◌, ◌∷◌, ℕ, zero, suc, List, [], ◌++◌, ap, sym, ◌∙◌, ap₂, append_assoc, arith, if◌then◌else◌, min, refl}
use Rattle.std.proofs.lemmas.List.{append-nil}

-- pieces gathered one after another
pub Gathers-append : (ps qs : List Piece) (a b c : Gathering) → Gathers ps a b → Gathers qs b c → Gathers (ps ++ qs) a c
Gathers-append ps qs a b c first second = λ others.
    ap (λ all. a.pieces ++ cut_pieces a.skip a.count all) (append_assoc ps qs others)
    ∙ first (qs ++ others) ∙ second others

-- what is gathered where nothing was
pub Gathers-all : (ps : List Piece) (skip count : ℕ) (old new : Gathering) → old.pieces ≡ [] → old.skip ≡ skip
    → old.count ≡ count → Gathers ps old new → new.pieces ≡ cut_pieces skip count ps
Gathers-all ps skip count old new none s c gathers =
    sym (append-nil new.pieces) ∙ sym (gathers [])
    ∙ ap (λ (had : List Piece). had ++ cut_pieces old.skip old.count (ps ++ [])) none
    ∙ ap (cut_pieces old.skip old.count) (append-nil ps)
    ∙ ap₂ (λ s c. cut_pieces s c ps) s c

cut_none : (skip count : ℕ) (ps : List Piece) → count ≡ 0 → cut_pieces skip count ps ≡ []
cut_none skip count [] none = refl
cut_none skip count (p ∷ ps) none =
    let bytes = min count (piece_length p - skip) in by bytes (omega (arith, none)) (cut_none (skip - piece_length p) (count - bytes) ps (omega (arith, none)))
  where
    by : (bytes : ℕ) → bytes ≡ 0 → cut_pieces (skip - piece_length p) (count - bytes) ps ≡ []
        → (let rest = cut_pieces (skip - piece_length p) (count - bytes) ps in if bytes == 0 then rest else piece_part skip bytes p ∷ rest) ≡ []
    by zero is rest = rest
    by (suc bytes) is rest = absurd (omega (arith, is))

-- where no byte is wanted any more, it is the same of which pieces
pub cut_enough : (had ps qs : List Piece) (skip count : ℕ) → count ≡ 0
    → had ++ cut_pieces skip count ps ≡ had ++ cut_pieces skip count qs
cut_enough had ps qs skip count none =
    ap (λ cut. had ++ cut) (cut_none skip count ps none ∙ sym (cut_none skip count qs none))
