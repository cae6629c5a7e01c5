-- The names of the catalogue's entries and the keys of hashes' entries, in their blocks.
use Rattle.std.specs.Prelude.{◌+◌, ◌*◌, ℕ, Bool, cond, nat_eq, List, [], ◌∷◌, ◌++◌, drop, get_or, take, Option, None, Some}
use Rattle.std.specs.Cmp.Lexicographic.{pointwise}
use Rattle.std.specs.List.{list_any}
use Rattle.sdr_base.specs.declared.layout.hash_entry.TheConstants as hash_entry
use Rattle.sdr_base.specs.declared.layout.name.TheConstants as name
use Rattle.sdr_base.specs.declared.line.TheConstants.{WORD}
use Rattle.audit_owners.specs.declared.texts.EntryText.{EntryText}
use Rattle.audit_owners.specs.declared.texts.EntryText.TheVariants as texts
use Rattle.audit_owners.specs.View.{View}
use Rattle.audit_owners.specs.Reading.{bytes_of}

-- the text that the bytes of an entry hold: a key is all behind two words, and a name so many bytes as a byte behind three words says
abbrev pub text_in : EntryText → List ℕ → List ℕ
text_in texts.Key bytes = drop (WORD * hash_entry.WORDS) bytes
text_in texts.Name bytes = take (get_or bytes (WORD * name.WORDS) 0) (drop (WORD * name.WORDS + 1) bytes)

-- the text of the entry at an address
abbrev pub text_at : View → EntryText → ℕ → List ℕ
text_at heap text addr = text_in text (bytes_of (heap.blocks addr))

-- whether the entry at an address has the text of one of these
abbrev pub is_repeated : View → EntryText → List ℕ → ℕ → Bool
is_repeated heap text among addr =
    list_any (λ other. pointwise nat_eq (text_at heap text addr) (text_at heap text other)) among

-- the first of the entries at these addresses that has the text of one before it, or of one of some others
abbrev pub repeated_among : View → EntryText → List ℕ → List ℕ → Option ℕ
repeated_among heap text others [] = None
repeated_among heap text others (addr ∷ addrs) =
    cond (is_repeated heap text others addr) (Some addr) (repeated_among heap text (others ++ addr ∷ []) addrs)

-- the first of the entries at these addresses that has the text of one before it
abbrev pub first_repeated : View → EntryText → List ℕ → Option ℕ
first_repeated heap text addrs = repeated_among heap text [] addrs
