-- When the chains of owners are right, and where they are wrong first.
use Rattle.std.specs.Prelude.{◌≡◌, ◌≢◌, ◌==◌, ◌&&◌, ◌⊎◌, ℕ, Bool, true, false, not, cond, List, [], ◌∷◌, ◌++◌, map, Some}
use Rattle.std.specs.List.{All, flat_map, list_any}
use Rattle.std.specs.Option.{option_map_or}
use Rattle.audit_owners.specs.Owners.{first_site, kind_in, last_site, names_owner, next_field, site_place, told_at}
use Rattle.audit_owners.specs.View.{View, is_kind, word_of}
use Rattle.audit_owners.specs.declared.owner.Owner.{Owner}
use Rattle.audit_owners.specs.declared.owner.Site.{Site}
use Rattle.sdr_base.specs.Entries.{AreOnce}

-- whether an address is among these
abbrev pub is_among : List ℕ → ℕ → Bool
is_among addrs addr = list_any (λ other. other == addr) addrs

-- whether there is a block of a chain's kind at an address
abbrev pub is_member : View → Owner → ℕ → Bool
is_member heap owner addr = is_kind (kind_in owner) (heap.blocks addr)

-- whether the block at an address names its owner and the one before it
abbrev pub names_owner_at : View → Owner → ℕ → ℕ → Bool
names_owner_at heap owner before addr = names_owner owner before (heap.blocks addr)

-- the link in the block of a chain at an address
abbrev pub next_of : View → Owner → ℕ → ℕ
next_of heap owner addr = word_of (heap.blocks addr) (next_field owner)

-- A chain goes from a link, which stands behind a block or, behind 0, before all, over the blocks at these addresses up to another
-- link, behind the last of them: each is of the chain's kind, and names its owner and the one before it.
abbrev pub ChainGoes : View → Owner → ℕ → ℕ → List ℕ → ℕ → ℕ → Type 0
ChainGoes heap owner before link [] last next = (before ≡ last) × (link ≡ next)
ChainGoes heap owner before link (addr ∷ addrs) last next =
    (link ≡ addr) × (addr ≢ 0) × (is_member heap owner addr ≡ true) × (names_owner_at heap owner before addr ≡ true)
    × ChainGoes heap owner addr (next_of heap owner addr) addrs last next

-- the link with which a chain begins
abbrev pub first_link : View → Owner → ℕ
first_link heap owner = told_at heap (first_site owner)

-- whether the word for the last block of a chain, if it has one, has this address
abbrev pub has_last : View → Owner → ℕ → Bool
has_last heap owner addr = option_map_or (λ site. told_at heap site == addr) (last_site owner) true

-- an owner, and the addresses of the blocks in its chain
pub record Chain : Type 0 where
  pub owner : Owner
  pub addrs : List ℕ

-- a chain is right: it goes over its blocks and ends, and the word for the last one is right
pub record IsChain (heap : View) (chain : Chain) : Type 0 where
  pub last : ℕ
  pub goes : ChainGoes heap chain.owner 0 (first_link heap chain.owner) chain.addrs last 0
  pub ends : has_last heap chain.owner last ≡ true

-- the addresses of all blocks of these chains
abbrev pub addrs_of : List Chain → List ℕ
addrs_of chains = flat_map (λ (chain : Chain). chain.addrs) chains

-- the chains of these owners are right, and go over the blocks at these addresses, each once
pub record ChainsReach (heap : View) (owners : List Owner) (reached : List ℕ) : Type 0 where
  pub chains : List Chain
  pub owners_are : map (λ (chain : Chain). chain.owner) chains ≡ owners
  pub right : All (IsChain heap) chains
  pub reached_are : addrs_of chains ≡ reached
  pub once : AreOnce reached

-- the chains of some owners reach these blocks, and then that of another goes over other blocks up to a link, behind a block
pub record ChainComes (heap : View) (owners : List Owner) (owner : Owner) (reached addrs : List ℕ) (before link : ℕ) : Type 0 where
  pub done : ChainsReach heap owners reached
  pub goes : ChainGoes heap owner 0 (first_link heap owner) addrs before link
  pub once : AreOnce (reached ++ addrs)

-- where the link behind a block of a chain stands, or behind none the first one
abbrev pub holder : Owner → ℕ → ℕ
holder owner before = cond (before == 0) (site_place (first_site owner)) before

-- a link leads to no block of the chain's kind, or to one that was reached
pub record LeadsNowhere (heap : View) (owner : Owner) (reached : List ℕ) (before link place : ℕ) : Type 0 where
  pub some : link ≢ 0
  pub wrong : (is_member heap owner link && not (is_among reached link)) ≡ false
  pub at : place ≡ holder owner before

-- a link leads to a block that names another owner, or another block before it
pub record LeadsToOther (heap : View) (owner : Owner) (reached : List ℕ) (before link place : ℕ) : Type 0 where
  pub some : link ≢ 0
  pub new : (is_member heap owner link && not (is_among reached link)) ≡ true
  pub wrong : names_owner_at heap owner before link ≡ false
  pub at : place ≡ link

-- the chain ends, and the word for the last block has another address
pub record EndsElsewhere (heap : View) (owner : Owner) (before link place : ℕ) : Type 0 where
  pub none : link ≡ 0
  pub site : Site
  pub has : last_site owner ≡ Some site
  pub wrong : (told_at heap site == before) ≡ false
  pub at : place ≡ site_place site

-- a chain that reached these blocks is wrong where it came to a link behind a block: the place of a link is that of the word in
-- which it stands, and a block that names another is told by its address
abbrev pub IsWrongHere : View → Owner → List ℕ → ℕ → ℕ → ℕ → Type 0
IsWrongHere heap owner reached before link place =
    LeadsNowhere heap owner reached before link place
    ⊎ (LeadsToOther heap owner reached before link place ⊎ EndsElsewhere heap owner before link place)

-- among the chains of these owners the first that is wrong is so at this place
pub record IsWrongChain (heap : View) (owners : List Owner) (place : ℕ) : Type 0 where
  pub earlier : List Owner
  pub owner : Owner
  pub later : List Owner
  pub whole : owners ≡ earlier ++ owner ∷ later
  pub reached : List ℕ
  pub addrs : List ℕ
  pub before : ℕ
  pub link : ℕ
  pub comes : ChainComes heap earlier owner reached addrs before link
  pub wrong : IsWrongHere heap owner (reached ++ addrs) before link place
