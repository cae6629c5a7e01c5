-- What the definition of scripts says of some inputs.
use Rattle.std.specs.Prelude.{◌≡◌, [], ◌∷◌, None, Some, Ok, Err, codes, map, refl}
use Rattle.std.specs.List.{range_with_len}
use Rattle.hex.specs.Hex.{decode_pairs}
use Rattle.sdr_base.specs.declared.account.Acct.TheVariants as accounts
use Rattle.sdr_words.specs.Script.{script_of, input_script}
use Rattle.sdr_model.specs.declared.script.Arg.TheVariants as args
use Rattle.sdr_words.specs.Literals.{literal_of}
use Rattle.sdr_words.specs.Verbs.{verb_names, verb_place, shapes, shapes_at}
use Rattle.sdr_words.specs.declared.verb.Shape.TheVariants as variants

-- an event, a call, an event
begin_string_end : script_of (codes "1: begin\n1: string \"hi\"\n1: end\n") ≡ Ok (
    record { line = 1; daemon = 1; name = []; verb = 0; args = [] }
    ∷ record { line = 2; daemon = 1; name = []; verb = 11; args = args.Text (codes "hi") ∷ [] }
    ∷ record { line = 3; daemon = 1; name = []; verb = 1; args = [] } ∷ [])
unfolding verb_names shapes
begin_string_end = refl

-- an unknown verb
unknown_verb : script_of (codes "1: begin\n1: frob\n") ≡ Err 2
unfolding verb_names shapes
unknown_verb = refl

-- a name that an earlier line bound
bound_name : script_of (codes "2: g = find \"greeting\"\n2: string_read g\n") ≡ Ok (
    record { line = 1; daemon = 2; name = codes "g"; verb = 47; args = args.Text (codes "greeting") ∷ [] }
    ∷ record { line = 2; daemon = 2; name = []; verb = 13; args = args.Named (codes "g") ∷ [] } ∷ [])
unfolding verb_names shapes
bound_name = refl

-- a name that another daemon bound, or that the line itself binds
foreign_name : script_of (codes "2: g = find \"x\"\n1: string_read g\n") ≡ Err 2
unfolding verb_names shapes
foreign_name = refl

own_name : script_of (codes "1: s = string_read s\n") ≡ Err 1
unfolding verb_names shapes
own_name = refl

no_input : script_of [] ≡ Ok []
unfolding verb_names shapes
no_input = refl

-- skipped lines are counted, and a space before # makes no comment
comments : script_of (codes "# one\n\n  \n16:  x =  end ")
    ≡ Ok (record { line = 4; daemon = 16; name = codes "x"; verb = 1; args = [] } ∷ [])
unfolding verb_names shapes
comments = refl

no_comment : script_of (codes "\n #\n") ≡ Err 2
unfolding verb_names shapes
no_comment = refl

-- the last line may lack its end
no_last_end : script_of (codes "1: end")
    ≡ Ok (record { line = 1; daemon = 1; name = []; verb = 1; args = [] } ∷ [])
unfolding verb_names shapes
no_last_end = refl

-- a text, a type and an object
catalogued : script_of (codes "1: b = catlg \"n\" 4294967295 18446744073709551615") ≡ Ok (
    record {
      line = 1;
      daemon = 1;
      name = codes "b";
      verb = 46;
      args = args.Text (codes "n") ∷ args.Number 4294967295 ∷ args.Number 18446744073709551615 ∷ [];
    } ∷ [])
unfolding verb_names shapes
catalogued = refl

too_large : script_of (codes "1: catlg \"n\" 4294967296 0") ≡ Err 1
unfolding verb_names shapes
too_large = refl

byte_10_alone : input_script (10 ∷ []) ≡ Ok []
unfolding verb_names shapes
byte_10_alone = refl

-- the longest statement
asked : script_of (codes "1: t = request out 1 2 3 255 0") ≡ Ok (
    record {
      line = 1;
      daemon = 1;
      name = codes "t";
      verb = 75;
      args = args.Account accounts.Outbound ∷ args.Number 1 ∷ args.Number 2 ∷ args.Number 3 ∷ args.Number 255 ∷ args.Number 0 ∷ [];
    } ∷ [])
unfolding verb_names shapes
asked = refl

too_urgent : script_of (codes "1: request out 1 2 3 256 0") ≡ Err 1
unfolding verb_names shapes
too_urgent = refl

-- three literals of two bytes
literals : literal_of (codes "\"hh\"") ≡ literal_of (codes "f68*2")
unfolding decode_pairs
literals = refl

in_digits : literal_of (codes "x6868") ≡ Some (codes "hh")
unfolding decode_pairs
in_digits = refl

upper_case : literal_of (codes "x4A") ≡ None
upper_case = refl

too_many_copies : literal_of (codes "f61*4097") ≡ None
unfolding decode_pairs
too_many_copies = refl

-- the number of the last verb, the shapes of two verbs' arguments, and a name of none
last_number : verb_place (codes "shred") ≡ Some 77
unfolding verb_names
last_number = refl

in_order : shapes_at 24 ≡ variants.Value ∷ variants.Value ∷ variants.Order ∷ []
unfolding shapes
in_order = refl

with_type : shapes_at 46 ≡ variants.Text ∷ variants.Type ∷ variants.Value ∷ []
unfolding shapes
with_type = refl

capital : verb_place (codes "Begin") ≡ None
unfolding verb_names
capital = refl

-- each verb is found at its own place
places : map verb_place verb_names ≡ map Some (range_with_len 0 78)
unfolding verb_names
places = refl
