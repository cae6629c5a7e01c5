-- What reads of media give of pieces.
use Rattle.std.proofs.Common.{◌≡◌, ◌≤◌, ◌<◌, ◌+◌, ◌||◌, ℕ, suc, List, [], ◌∷◌, ◌++◌, Bool, true, false, Option, None, Some, length, take, drop, min, refl, sym, ap, ◌∙◌, subst, arith, IfSome, append_assoc, append-nil, add-zero, cond, length-append, Result, Ok, Err, IfOk, OnErr}
use Rattle.std.specs.List.{list_any}
use Rattle.std.specs.Prelude.{MatchBool, nat_lt}
use Rattle.std.proofs.lemmas.Bool.{le-ltb, lt-ltb}
use Rattle.std.proofs.Math.Seq.{take-length}
use Rattle.std.proofs.lemmas.List.{length-map, length-replicate, length-take}
use Rattle.std.proofs.lemmas.List.Sums.{sum_by-cons}
use Rattle.sdr_base.specs.Media.{GivesFrom, Told, file_bytes, item_bytes}
use Rattle.sdr_machine.specs.Agreeing.{IsFirstShort}
use Rattle.sdr_machine.specs.Ground.{lies_with_media}
use Rattle.sdr_model.specs.Pieces.{bytes_by, media_bytes, piece_length, piece_told, pieces_told}
use Rattle.sdr_model.specs.Wire.{Spells, ToldBytes, known, unknown}
use Rattle.sdr_model.specs.declared.piece.Piece.{Piece}
use Rattle.sdr_model.specs.declared.piece.Piece.TheVariants as pieces
use Rattle.sdr_gather.specs.declared.gathering.Gap.{Gap}
use Rattle.sdr_gather.specs.declared.gathering.Gap.TheVariants as gaps
use Rattle.sdr_gather.specs.Gathering.{AddsPiece, AreGathered, Gathering, HasGiven, IsGapIn, IsGapOf, OfMedia}
use Rattle.sdr_machine.specs.Asked.{count_outside}

-- how many of these lie with media is that of the first and of the others
pub count_outside-cons : (piece : Piece) (rest : List Piece) → count_outside (piece ∷ rest) ≡ count_outside (piece ∷ []) + count_outside rest
count_outside-cons piece rest =
    let all : count_outside (piece ∷ rest) ≡ cond (lies_with_media piece) 1 0 + count_outside rest =
    sum_by-cons (λ (p : Piece). cond (lies_with_media p) 1 0) piece rest in
    let alone : count_outside (piece ∷ []) ≡ cond (lies_with_media piece) 1 0 + 0 =
    sum_by-cons (λ (p : Piece). cond (lies_with_media p) 1 0) piece [] in
    all ∙ ap (λ n. n + count_outside rest) (sym (alone ∙ add-zero (cond (lies_with_media piece) 1 0)))

-- known bytes are spelled by themselves
pub spells_known : (bytes : List ℕ) → Spells (known bytes) bytes
spells_known [] = tt
spells_known (b ∷ bytes) = (refl, spells_known bytes)

-- bytes that the world leaves to media are spelled by any that are as many
pub spells_unknown : (bytes : List ℕ) → Spells (unknown (length bytes)) bytes
spells_unknown [] = tt
spells_unknown (b ∷ bytes) = (tt, spells_unknown bytes)

-- bytes that are told, one after another
pub spells-append : (told more : ToldBytes) (bytes rest : List ℕ) → Spells told bytes → Spells more rest
    → Spells (told ++ more) (bytes ++ rest)
spells-append [] more [] rest s r = r
spells-append (t ∷ told) more (b ∷ bytes) rest s r = (s.0, spells-append told more bytes rest s.1 r)
spells-append [] more (b ∷ bytes) rest s r = absurd s
spells-append (t ∷ told) more [] rest s r = absurd s

-- nothing was gathered yet
pub gathering-start : (told : Option Told) (pieces : List Piece) → Gathering told pieces pieces []
gathering-start None pieces = record { known = λ more s. s; held = tt; outside = λ lies. lies; first = tt }
gathering-start (Some media) pieces = record { known = λ more s. s; held = refl; outside = λ lies. lies; first = λ have want s. s }

-- the bytes of a piece are as many as it has
pub length-told : (told : ToldBytes) (bytes : List ℕ) → Spells told bytes → length bytes ≡ length told
length-told [] [] s = refl
length-told (t ∷ told) (b ∷ bytes) s = ap suc (length-told told bytes s.1)
length-told [] (b ∷ bytes) s = absurd s
length-told (t ∷ told) [] s = absurd s

-- a piece has as many bytes as are told of it
pub length-piece : (piece : Piece) → length (piece_told piece) ≡ piece_length piece
length-piece (pieces.Known bytes) = length-map bytes (λ b. Some b)
length-piece (pieces.File path offset bytes) = length-replicate {A = Option ℕ} bytes None
length-piece (pieces.Bulk item offset bytes) = length-replicate {A = Option ℕ} bytes None

-- the first of pieces that are together at most a page is at most one
pub first_fits : (piece : Piece) (rest : List Piece) → length (pieces_told (piece ∷ rest)) ≤ 4096 → piece_length piece ≤ 4096
first_fits piece rest fits =
    omega (arith, fits, length-append (piece_told piece) (pieces_told rest), length-piece piece)

-- and so are the others together
pub rest_fits : (piece : Piece) (rest : List Piece) → length (pieces_told (piece ∷ rest)) ≤ 4096 → length (pieces_told rest) ≤ 4096
rest_fits piece rest fits = omega (arith, fits, length-append (piece_told piece) (pieces_told rest))

-- a read of media that had all bytes gave just these
whole : (content into : List ℕ) (offset n : ℕ) → GivesFrom (Some content) offset n into → n ≡ length into
    → into ≡ take n (drop offset content)
whole content into offset n gives all =
    sym (ap (λ k. take k into) all ∙ take-length into) ∙ gives.1

-- a read of media had as many as they hold from there, of those asked for
held : (content into : List ℕ) (offset n want : ℕ) → GivesFrom (Some content) offset n into → length into ≡ want
    → n ≡ length (take want (drop offset content))
held content into offset n want gives asked =
    gives.0 ∙ ap (λ k. min k (length (drop offset content))) asked ∙ sym (length-take want (drop offset content))

-- what a read of a file gives
pub file_given : (told : Option Told) (path : List ℕ) (offset want n : ℕ) (into : List ℕ) (Short : Type 0)
    → GivesFrom (file_bytes told path) offset n into → length into ≡ want → n ≤ length into → (n < length into → Short)
    → HasGiven told (pieces.File path offset want) into n Short
file_given told path offset want n into Short gives asked few short = record {
  few = omega (arith, few, asked);
  whole = λ all. record {
    known = subst (λ k. Spells (unknown k) into) asked (spells_unknown into);
    held = by_told told gives (all ∙ sym asked);
  };
  short = λ less. short (omega (arith, less, asked));
  held = had told gives;
}
  where
    by_told : (told : Option Told) → GivesFrom (file_bytes told path) offset n into → n ≡ length into
        → IfSome told (λ media. into ≡ media_bytes media (pieces.File path offset want))
    by_told None gives all = tt
    by_told (Some media) gives all =
        whole (media.files path) into offset n gives all ∙ ap (λ k. take k (drop offset (media.files path))) (all ∙ asked)

    had : (told : Option Told) → GivesFrom (file_bytes told path) offset n into
        → IfSome told (λ media. n ≡ length (media_bytes media (pieces.File path offset want)))
    had None gives = tt
    had (Some media) gives = held (media.files path) into offset n want gives asked

-- what a read of an item gives
pub item_given : (told : Option Told) (item offset want n : ℕ) (into : List ℕ) (Short : Type 0)
    → GivesFrom (item_bytes told item) offset n into → length into ≡ want → n ≤ length into → (n < length into → Short)
    → HasGiven told (pieces.Bulk item offset want) into n Short
item_given told item offset want n into Short gives asked few short = record {
  few = omega (arith, few, asked);
  whole = λ all. record {
    known = subst (λ k. Spells (unknown k) into) asked (spells_unknown into);
    held = by_told told gives (all ∙ sym asked);
  };
  short = λ less. short (omega (arith, less, asked));
  held = had told gives;
}
  where
    by_told : (told : Option Told) → GivesFrom (item_bytes told item) offset n into → n ≡ length into
        → IfSome told (λ media. into ≡ media_bytes media (pieces.Bulk item offset want))
    by_told None gives all = tt
    by_told (Some media) gives all =
        whole (media.items item) into offset n gives all ∙ ap (λ k. take k (drop offset (media.items item))) (all ∙ asked)

    had : (told : Option Told) → GivesFrom (item_bytes told item) offset n into
        → IfSome told (λ media. n ≡ length (media_bytes media (pieces.Bulk item offset want)))
    had None gives = tt
    had (Some media) gives = held (media.items item) into offset n want gives asked

module _ {E : Type 0} (told : Option Told) (offset want : ℕ) (into : List ℕ) (Short : Type 0) (asked : length into ≡ want) where
  -- what a call that reads a file gives
  pub file_read_given : (path : List ℕ) (r : Result ℕ E) → IfOk r (λ n. GivesFrom (file_bytes told path) offset n into)
      → IfOk r (λ n. n ≤ length into) → IfOk r (λ n. n < length into → Short)
      → IfOk r (λ n. HasGiven told (pieces.File path offset want) into n Short)
  file_read_given path (Ok n) gives few short = file_given told path offset want n into Short gives asked few short
  file_read_given path (Err e) gives few short = tt

  -- what a call that reads an item gives
  pub item_read_given : (item : ℕ) (r : Result ℕ E) → IfOk r (λ n. GivesFrom (item_bytes told item) offset n into)
      → IfOk r (λ n. n ≤ length into) → IfOk r (λ n. n < length into → Short)
      → IfOk r (λ n. HasGiven told (pieces.Bulk item offset want) into n Short)
  item_read_given item (Ok n) gives few short = item_given told item offset want n into Short gives asked few short
  item_read_given item (Err e) gives few short = tt

-- what comes of a read of media, comes of them
pub of_media : {E : Type 0} (P : ℕ → Type 0) (Cause : Type 0) (outside : Bool) (r : Result ℕ E) → outside ≡ true → IfOk r (λ n. P n → Cause)
    → IfOk r (λ n. P n → OfMedia outside Cause)
of_media P Cause outside (Ok n) is h = λ less. (is, h less)
of_media P Cause outside (Err e) is h = tt

pub fault_of_media : {X E : Type 0} (Cause : Type 0) (outside : Bool) (r : Result X E) → outside ≡ true → OnErr r Cause → OnErr r (OfMedia outside Cause)
fault_of_media Cause outside (Ok x) is h = tt
fault_of_media Cause outside (Err e) is h = (is, h)

-- bytes that the world has are given whole
pub known_given : (told : Option Told) (bytes : List ℕ) (Short : Type 0) → HasGiven told (pieces.Known bytes) bytes (length bytes) Short
known_given told bytes Short = record {
  few = omega arith;
  whole = λ all. record { known = spells_known bytes; held = by_told told };
  short = λ less. absurd (omega (arith, less));
  held = had told;
}
  where
    by_told : (told : Option Told) → IfSome told (λ media. bytes ≡ media_bytes media (pieces.Known bytes))
    by_told None = tt
    by_told (Some media) = refl

    had : (told : Option Told) → IfSome told (λ media. length bytes ≡ length (media_bytes media (pieces.Known bytes)))
    had None = tt
    had (Some media) = refl

-- the bytes gathered with one more piece
known_next : (told : Option Told) (all : List Piece) (piece : Piece) (rest : List Piece) (bytes more : List ℕ)
    → Gathering told all (piece ∷ rest) bytes → AddsPiece told piece bytes more
    → (later : List ℕ) → Spells (pieces_told rest) later → Spells (pieces_told all) (more ++ later)
known_next told all piece rest bytes more g adds later s =
    subst (λ l. Spells (pieces_told all) (l ++ later)) (sym adds.added)
    (subst (Spells (pieces_told all)) (sym (append_assoc bytes adds.bytes later))
    (g.known (adds.bytes ++ later) (spells-append (piece_told piece) (pieces_told rest) adds.bytes later adds.gives.known s)))

behind : (a b : Bool) → b ≡ true → a || b ≡ true
behind true b is = refl
behind false b is = is

before : (a b : Bool) → a ≡ true → a || b ≡ true
before a b is = ap (λ x. x || b) is

-- one more piece was gathered
pub gathering-next : (told : Option Told) (all : List Piece) (piece : Piece) (rest : List Piece) (bytes more : List ℕ)
    → Gathering told all (piece ∷ rest) bytes → AddsPiece told piece bytes more → Gathering told all rest more
gathering-next None all piece rest bytes more g adds = record {
  known = known_next None all piece rest bytes more g adds;
  held = tt;
  outside = λ lies. g.outside (behind (lies_with_media piece) (list_any lies_with_media rest) lies);
  first = tt;
}
gathering-next (Some media) all piece rest bytes more g adds = record {
  known = known_next (Some media) all piece rest bytes more g adds;
  held =
      ap (λ l. l ++ bytes_by media rest) (adds.added ∙ ap (λ l. bytes ++ l) adds.gives.held)
      ∙ append_assoc bytes (media_bytes media piece) (bytes_by media rest) ∙ g.held;
  outside = λ lies. g.outside (behind (lies_with_media piece) (list_any lies_with_media rest) lies);
  first = λ have want s. g.first have want (passed have want s);
}
  where
    as_many : length (media_bytes media piece) ≡ piece_length piece
    as_many =
        (sym (ap length adds.gives.held) ∙ length-told (piece_told piece) adds.bytes adds.gives.known ∙ length-piece piece)

    full : nat_lt (length (media_bytes media piece)) (piece_length piece) ≡ false
    full = le-ltb (length (media_bytes media piece)) (piece_length piece) (omega (arith, as_many))

    passed : (have want : ℕ) → IsFirstShort media rest have want → IsFirstShort media (piece ∷ rest) have want
    passed have want s =
        subst (λ b. MatchBool b ((have ≡ length (media_bytes media piece)) × (want ≡ piece_length piece))
        (IsFirstShort media rest have want)) (sym full) s

-- all pieces were gathered
pub gathering-end : (told : Option Told) (all : List Piece) (bytes : List ℕ) → Gathering told all [] bytes → AreGathered told all bytes
gathering-end None all bytes g = record { known = subst (Spells (pieces_told all)) (append-nil bytes) (g.known [] tt); held = tt }
gathering-end (Some media) all bytes g = record {
  known = subst (Spells (pieces_told all)) (append-nil bytes) (g.known [] tt);
  held = sym (append-nil bytes) ∙ g.held;
}

-- what was gathered of some pieces, and then of the rest of them, was gathered of all
pub gathering-trans : (told : Option Told) (all mid rest : List Piece) (xs ys : List ℕ) → Gathering told all mid xs
    → Gathering told mid rest ys → Gathering told all rest (xs ++ ys)
gathering-trans None all mid rest xs ys g h = record {
  known = λ more s. subst (Spells (pieces_told all)) (sym (append_assoc xs ys more)) (g.known (ys ++ more) (h.known more s));
  held = tt;
  outside = λ lies. g.outside (h.outside lies);
  first = tt;
}
gathering-trans (Some media) all mid rest xs ys g h = record {
  known = λ more s. subst (Spells (pieces_told all)) (sym (append_assoc xs ys more)) (g.known (ys ++ more) (h.known more s));
  held = append_assoc xs ys (bytes_by media rest) ∙ ap (λ l. xs ++ l) h.held ∙ g.held;
  outside = λ lies. g.outside (h.outside lies);
  first = λ have want s. g.first have want (h.first have want s);
}

-- the bytes of a piece that was added are as many as it has
pub adds-length : (told : Option Told) (piece : Piece) (old new : List ℕ) → AddsPiece told piece old new → length new ≡ length old + piece_length piece
adds-length told piece old new adds =
    omega (
      arith,
      ap length adds.added,
      length-append old adds.bytes,
      length-told (piece_told piece) adds.bytes adds.gives.known,
      length-piece piece,
    )

-- why a piece wasn't gathered is why not all were
module _ (all : List Piece) (piece : Piece) (rest : List Piece) (bytes : List ℕ) (Failed Short : Type 0) where
  pub gathering-gap : (told : Option Told) (gap : Gap) → Gathering told all (piece ∷ rest) bytes
      → IsGapOf told piece (OfMedia (lies_with_media piece) Failed) (OfMedia (lies_with_media piece) Short) gap
      → IsGapIn told all (OfMedia (list_any lies_with_media all) Failed) (OfMedia (list_any lies_with_media all) Short) gap
  gathering-gap told gaps.Fault g h = (g.outside (before (lies_with_media piece) (list_any lies_with_media rest) h.0), h.1)
  gathering-gap None (gaps.Short have want) g h =
      (h.0, (g.outside (before (lies_with_media piece) (list_any lies_with_media rest) h.1.0), h.1.1), tt)
  gathering-gap (Some media) (gaps.Short have want) g h =
      (h.0, (g.outside (before (lies_with_media piece) (list_any lies_with_media rest) h.1.0), h.1.1), g.first have want short_here)
    where
      short_here : IsFirstShort media (piece ∷ rest) have want
      short_here =
          subst (λ b. MatchBool b ((have ≡ length (media_bytes media piece)) × (want ≡ piece_length piece))
          (IsFirstShort media rest have want)) (sym (lt-ltb _ _ (omega (arith, h.0, h.2.0, h.2.1)))) h.2
