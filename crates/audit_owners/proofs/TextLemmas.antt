-- Texts that are repeated.
use Rattle.std.proofs.Common.{◌≡◌, ◌<◌, ◌+◌, ◌||◌, ℕ, Bool, true, false, not, cond, nat_eq, List, [], ◌∷◌, ◌++◌, drop, take, get_or, map, length, ap, ◌∙◌, refl, sym}
use Rattle.std.specs.Prelude.{Some}
use Rattle.std.specs.Cmp.Lexicographic.{pointwise}
use Rattle.std.specs.List.{list_any}
use Rattle.std.proofs.lemmas.List.{drop_more, map-append, take_more}
use Rattle.audit_owners.specs.Texts.{first_repeated, is_repeated, repeated_among, text_at}
use Rattle.audit_owners.specs.declared.texts.EntryText.{EntryText}
use Rattle.audit_owners.specs.View.{View}

-- a test of what is read of each
any_map : {X Y : Type 0} (p : Y → Bool) (f : X → Y) (xs : List X) → list_any (λ x. p (f x)) xs ≡ list_any p (map f xs)
any_map p f [] = refl
any_map p f (x ∷ xs) = ap (λ (t : Bool). p (f x) || t) (any_map p f xs)

-- whether a text is among those of some keys is whether it is repeated
pub among_keys : {X : Type 0} (heap : View) (text : EntryText) (items : X → List ℕ) (keys : List X) (seen : List ℕ) (addr : ℕ) (own : List ℕ) →
    map items keys ≡ map (text_at heap text) seen → own ≡ text_at heap text addr →
    list_any (λ key. pointwise nat_eq own (items key)) keys ≡ is_repeated heap text seen addr
among_keys heap text items keys seen addr own same is =
    any_map (pointwise nat_eq own) items keys
    ∙ ap (list_any (pointwise nat_eq own)) same
    ∙ sym (any_map (pointwise nat_eq own) (text_at heap text) seen)
    ∙ ap (λ (l : List ℕ). list_any (λ other. pointwise nat_eq l (text_at heap text other)) seen) is

module _ (heap : View) (text : EntryText) (addrs : List ℕ) (i d : ℕ) (less : i < length addrs) where
  -- an entry that is repeated is so first, where none before it is
  pub repeated_here : repeated_among heap text (take i addrs) (drop i addrs) ≡ first_repeated heap text addrs →
      is_repeated heap text (take i addrs) (get_or addrs i d) ≡ true → Some (get_or addrs i d) ≡ first_repeated heap text addrs
  repeated_here rest here =
      let a = get_or addrs i d in
      sym (ap (repeated_among heap text (take i addrs)) (drop_more addrs i d less)
      ∙ ap (λ (t : Bool). cond t (Some a) (repeated_among heap text (take i addrs ++ (a ∷ [])) (drop (i + 1) addrs))) here)
      ∙ rest

  -- and behind one that isn't, another may be
  pub repeated_later : repeated_among heap text (take i addrs) (drop i addrs) ≡ first_repeated heap text addrs →
      is_repeated heap text (take i addrs) (get_or addrs i d) ≡ false →
      repeated_among heap text (take (i + 1) addrs) (drop (i + 1) addrs) ≡ first_repeated heap text addrs
  repeated_later rest new =
      let a = get_or addrs i d in
      ap (λ (l : List ℕ). repeated_among heap text l (drop (i + 1) addrs)) (take_more addrs i d less)
      ∙ sym (ap (repeated_among heap text (take i addrs)) (drop_more addrs i d less)
      ∙ ap (λ (t : Bool). cond t (Some a) (repeated_among heap text (take i addrs ++ (a ∷ [])) (drop (i + 1) addrs))) new)
      ∙ rest

  -- the texts so far, and one more
  pub texts_more : map (text_at heap text) (take (i + 1) addrs) ≡ map (text_at heap text) (take i addrs) ++ (text_at heap text (get_or addrs i d) ∷ [])
  texts_more = ap (map (text_at heap text)) (take_more addrs i d less) ∙ map-append (text_at heap text) (take i addrs) (get_or addrs i d ∷ [])

-- what a set answers of a text that it had, and of a new one
pub was_in : (t r : Bool) → r ≡ not t → r ≡ false → t ≡ true
was_in true r is off = refl
was_in false r is off = let d : false ≡ true = sym off ∙ is in cc

pub was_new : (t r : Bool) → r ≡ not t → r ≡ true → t ≡ false
was_new true r is on = let d : true ≡ false = sym on ∙ is in cc
was_new false r is on = refl

-- the texts in a set to which a new one came
pub keys_more : {X : Type 0} (items : X → List ℕ) (old new : List X) (key : X) (is_in : Bool) → new ≡ cond is_in old (old ++ (key ∷ [])) → is_in ≡ false →
    map items new ≡ map items old ++ (items key ∷ [])
keys_more {X} items old new key is_in is off =
    ap (map items) (is ∙ ap (λ (t : Bool). cond t old (old ++ (key ∷ []))) off) ∙ map-append items old (key ∷ [])
