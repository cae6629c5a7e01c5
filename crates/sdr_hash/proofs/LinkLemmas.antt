-- The link to an entry is set.
use Rattle.std.proofs.Common.{◌≡◌, ℕ, ◌+◌, ◌*◌, ◌<◌, ◌^◌, List, [], ◌∷◌, ◌++◌, length, set, get_or, Some, refl, sym, ap, ◌∙◌, arith, subst}
use Rattle.std.proofs.lemmas.List.{set-get_or}
use Rattle.byteorder.specs.Endian.{big_bytes}
use Rattle.sdr_base.specs.Blocks.{Blocks, Reaches, overwritten, with_block}
use Rattle.sdr_base.specs.Entries.{Entries, BlocksAre}
use Rattle.sdr_base.specs.Hashes.{HashItem, item_addr, item_block}
use Rattle.sdr_base.specs.Linked.{first_of, last_of, linked}
use Rattle.sdr_base.specs.declared.kind.Kind.TheVariants as kinds
use Rattle.sdr_base.proofs.ChainLemmas.{last_holds}
use Rattle.sdr_base.proofs.LayoutLemmas.{length-layout, overwrite-layout}
use Rattle.sdr_base.proofs.LinkedLemmas.{relinked_next}
use Rattle.sdr_base.proofs.StandingLemmas.{found}
use Rattle.sdr_base.proofs.WritingLemmas.{reaches, word_set}
use Rattle.sdr_hash.specs.Opened.{words_block}
use Rattle.sdr_hash.specs.Walks.{link_behind}
use Rattle.sdr_hash.specs.declared.bucket.Link.{Link}
use Rattle.sdr_hash.proofs.ItemLemmas.{item_words}

-- an entry doesn't say which one is before it
pub any_previous : (p q next : ℕ) (items : List HashItem) →
    linked item_addr item_block p next items ≡ linked item_addr item_block q next items
unfolding linked
any_previous p q next [] = refl
any_previous p q next (x ∷ xs) = refl

-- the link behind some is in the last of them
link_last : (at : ℕ) (items : List HashItem) →
    link_behind (record { addr = at; field = 0 }) items ≡ record { addr = last_of item_addr at items; field = 0 }
link_last at [] = refl
link_last at (x ∷ items) = link_last x.addr items

pub small_behind : (front : Link) (items : List HashItem) → front.field < 2 ^ 32 → (link_behind front items).field < 2 ^ 32
small_behind front [] small = small
small_behind front (x ∷ items) small = small_behind (record { addr = x.addr; field = 0 }) items (omega arith)

-- the hash's block, and some first entries of a bucket, behind which another block follows
abbrev pub part_entries : ℕ → List ℕ → ℕ → List HashItem → Entries → Entries
part_entries hash words next items rest = (hash, words_block words) ∷ (linked item_addr item_block 0 next items ++ rest)

-- the link is within its block
pub link_reaches : {b : Blocks} (front : Link) (words : List ℕ) (next : ℕ) (items : List HashItem) (rest : Entries) →
    front.field < length words → BlocksAre b
    (part_entries front.addr words next items rest) → (link : Link) → link ≡ link_behind front items →
    Reaches (b link.addr) (8 * link.field + 8)
link_reaches {b} front words next [] rest inside s link e =
    subst (λ (l : Link). Reaches (b l.addr) (8 * l.field + 8)) (sym e)
    (reaches (b front.addr) kinds.Hash words [] (8 * front.field + 8)
    (found b front.addr (words_block words) [] (linked item_addr item_block 0 next [] ++ rest) s) (omega (arith, inside)))
link_reaches {b} front words next (x ∷ xs) rest inside s link e =
    subst (λ (l : Link). Reaches (b l.addr) (8 * l.field + 8)) (sym (e ∙ link_last x.addr xs))
    (last_holds item_addr item_block (λ o. Reaches o (8 * 0 + 8)) b ((front.addr, words_block words) ∷ []) rest 0 next x xs
    (λ p y. let l = length-layout (item_words next y) y.key in omega (arith, l)) s)

-- another entry follows
pub relinked : {b b' : Blocks} (front : Link) (words : List ℕ) (next next' : ℕ) (items : List HashItem) (rest : Entries) →
    front.field < length words → get_or words front.field 0 ≡ first_of item_addr next items →
    BlocksAre b (part_entries front.addr words next items rest) → (link : Link) → link ≡ link_behind front items →
    b' ≡ with_block b link.addr (overwritten (b link.addr) (8 * link.field) (big_bytes 8 next')) →
    BlocksAre b' (part_entries front.addr (set words front.field (first_of item_addr next' items)) next' items rest)
unfolding linked
relinked {b} {b'} front words next next' [] rest inside first s link e w =
    word_set b b' front.addr kinds.Hash words [] front.field next' [] rest
    (subst (λ (l : Link). b' ≡ with_block b l.addr (overwritten (b l.addr) (8 * l.field) (big_bytes 8 next'))) e w) inside s
relinked {b} {b'} front words next next' (x ∷ xs) rest inside first s link e w =
    subst (λ (ws : List ℕ). BlocksAre b' (part_entries front.addr ws next' (x ∷ xs) rest))
    (sym (set-get_or words front.field 0) ∙ ap (set words front.field) first)
    (relinked_next item_addr item_block b b' ((front.addr, words_block words) ∷ []) rest (8 * 0) 0 next next'
    (big_bytes 8 next') x xs
    (λ p y. ap (λ (bytes : List ℕ). Some (record { kind = kinds.HashEntry; bytes = bytes }))
    (overwrite-layout (item_words next y) y.key 0 next' (omega arith)))
    (subst (λ (l : Link). b' ≡ with_block b l.addr (overwritten (b l.addr) (8 * l.field) (big_bytes 8 next')))
    (e ∙ link_last x.addr xs) w) s)
