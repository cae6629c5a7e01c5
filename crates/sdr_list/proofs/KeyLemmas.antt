-- The key in a block, as it is read.
use Rattle.std.proofs.Common.{◌≡◌, ℕ, zero, suc, ◌+◌, ◌-◌, ◌≤◌, ◌<◌, List, [], ◌∷◌, ◌++◌, length, take, drop, Option, Some, None}
use Rattle.std.proofs.Common.{refl, sym, ap, ◌∙◌, arith, length-take, length-drop}
use Rattle.std.specs.Prelude.{min}
use Rattle.std.proofs.lemmas.List.{take-append-le, take_all}
use Rattle.sdr_base.specs.Blocks.{Block, HasBytes, Reaches, kind_length}
use Rattle.sdr_base.specs.Raws.{raw_block}
use Rattle.sdr_base.specs.Words.{layout}
use Rattle.sdr_base.specs.declared.kind.Kind.{Kind}
use Rattle.sdr_base.specs.declared.kind.Kind.TheVariants as kinds
use Rattle.sdr_list.specs.Orders.{ReadsKey, if_raw, key_in}

-- the length of the key in a block of a kind
length-raw : (kind : Kind) (bytes : List ℕ) → kind ≡ kinds.Raw → length (if_raw kind bytes) ≡ length (take 64 (drop 8 bytes))
length-raw kind bytes e = ap (λ (k : Kind). length (if_raw k bytes)) e

-- the key in the block of a raw object is its first bytes
pub key-raw : (named_by : ℕ) (bytes : List ℕ) → key_in (Some (raw_block named_by bytes)) ≡ take 64 bytes
unfolding layout
key-raw named_by bytes = refl

-- the kind and the length, Raw and 0 where there are none
kind_or : Option (Kind × ℕ) → Kind × ℕ
kind_or None = (kinds.Raw, 0)
kind_or (Some pair) = pair

-- the length of a raw object's key
pub length-key : (found : Option Block) (bytes count : ℕ) → kind_length found ≡ Some (kinds.Raw, bytes) → count ≡ min (bytes - 8) 64 →
    count ≡ length (key_in found)
unfolding kind_or
length-key None bytes count e is = let d : None ≡ Some (kinds.Raw, bytes) = e in cc
length-key (Some block) bytes count e is =
    let kind : block.kind ≡ kinds.Raw = ap (λ o. (kind_or o).0) e in
    let size : length block.bytes ≡ bytes = ap (λ o. (kind_or o).1) e in
    let l = length-take 64 (drop 8 block.bytes) in
    let m = length-drop 8 block.bytes in
    let r = length-raw block.kind block.bytes kind in
    omega (arith, l, m, r, size, is)

-- a key that isn't empty is in its block
reaches_by : (kind : Kind) (bytes : List ℕ) (count more : ℕ) → count ≡ length (if_raw kind bytes) → 0 < count → more ≡ count → 8 + more ≤ length bytes
reaches_by kinds.Raw bytes count more e some same =
    let l = length-take 64 (drop 8 bytes) in
    let m = length-drop 8 bytes in omega (arith, e, some, same, l, m)
reaches_by kind bytes count more e some same = absurd (omega (arith, e, some))

pub key_reaches : (found : Option Block) (count more : ℕ) → count ≡ length (key_in found) → 0 < count → more ≡ count → Reaches found (8 + more)
key_reaches None count more e some same = absurd (omega (arith, e, some))
key_reaches (Some block) count more e some same = reaches_by block.kind block.bytes count more e some same

-- as many as a part has is that part
take_cut : (most : ℕ) (xs : List ℕ) → take (length (take most xs)) xs ≡ take most xs
take_cut zero xs = refl
take_cut (suc most) [] = refl
take_cut (suc most) (x ∷ xs) = ap (λ (ys : List ℕ). x ∷ ys) (take_cut most xs)

read_by : (kind : Kind) (bytes into rest : List ℕ) (count more : ℕ) → count ≡ length (if_raw kind bytes) → more ≡ count → into ≡ take more (drop 8 bytes) →
    take count (into ++ rest) ≡ if_raw kind bytes
read_by kinds.Raw bytes into rest count more e same is =
    let xs = drop 8 bytes in
    let key : into ≡ take 64 xs = is ∙ ap (λ k. take k xs) (same ∙ e) ∙ take_cut 64 xs in
    let size : length into ≡ count = ap (length {A = ℕ}) key ∙ sym e in
    take-append-le count into rest (omega (arith, size)) ∙ take_all count into (omega (arith, size)) ∙ key
read_by kind bytes into rest count more e same is = ap (λ k. take k (into ++ rest)) e

-- the bytes that were read are the key
pub key_read : (found : Option Block) (into rest : List ℕ) (count more : ℕ) → count ≡ length (key_in found) → count ≤ 64 → more ≡ count →
    HasBytes found 8 more into → ReadsKey found count (into ++ rest)
key_read None into rest count more e short same has = absurd has
key_read (Some block) into rest count more e short same has =
    record { short = short; key = read_by block.kind block.bytes into rest count more e same has }

-- an empty key needs no bytes
pub no_key : (found : Option Block) (into : List ℕ) (count : ℕ) → count ≡ length (key_in found) → count ≤ 64 → count ≡ 0 → ReadsKey found count into
no_key found into count e short none = record {
  short = short;
  key = ap (λ k. take k into) none ∙ sym (empty (key_in found) (sym e ∙ none));
}
  where
    empty : (xs : List ℕ) → length xs ≡ 0 → xs ≡ []
    empty [] z = refl
    empty (x ∷ xs) z = absurd (omega (arith, z))
