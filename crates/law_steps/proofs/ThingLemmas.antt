-- Which thing is there, by what it is taken for.
use Rattle.std.proofs.Common.{◌≡◌, ℕ, List, Option, Some, None, ap}
use Rattle.std.specs.Option.{option_map}
use Rattle.sdr_model.specs.HashSteps.{as_hash}
use Rattle.sdr_model.specs.Hashes.{Hash}
use Rattle.sdr_model.specs.ListSteps.{as_list}
use Rattle.sdr_model.specs.TableSteps.{as_table}
use Rattle.sdr_model.specs.Tables.{Table}
use Rattle.sdr_model.specs.World.{as_raw, as_text}
use Rattle.sdr_model.specs.Zco.{as_object, as_source}
use Rattle.sdr_model.specs.declared.things.SdrList.{SdrList}
use Rattle.sdr_model.specs.declared.things.Thing.{Thing}
use Rattle.sdr_model.specs.declared.things.Thing.TheVariants as things
use Rattle.sdr_model.specs.declared.zco.ZcoObject.{ZcoObject}
use Rattle.sdr_model.specs.declared.zco.ZcoSource.{ZcoSource}

pub raw_is : (t : Option Thing) (bytes : List ℕ) → as_raw t ≡ Some bytes → t ≡ Some (things.Raw bytes)
raw_is (Some (things.Raw b)) bytes is = ap (option_map (λ b. things.Raw b)) is
raw_is t bytes is = let none : None ≡ Some bytes = is in cc

pub text_is : (t : Option Thing) (text : List ℕ) → as_text t ≡ Some text → t ≡ Some (things.Text text)
text_is (Some (things.Text b)) text is = ap (option_map (λ b. things.Text b)) is
text_is t text is = let none : None ≡ Some text = is in cc

pub list_is : (t : Option Thing) (row : SdrList) → as_list t ≡ Some row → t ≡ Some (things.List row)
list_is (Some (things.List r)) row is = ap (option_map (λ r. things.List r)) is
list_is t row is = let none : None ≡ Some row = is in cc

pub table_is : (t : Option Thing) (table : Table) → as_table t ≡ Some table → t ≡ Some (things.Table table)
table_is (Some (things.Table r)) table is = ap (option_map (λ r. things.Table r)) is
table_is t table is = let none : None ≡ Some table = is in cc

pub hash_is : (t : Option Thing) (hash : Hash) → as_hash t ≡ Some hash → t ≡ Some (things.Hash hash)
hash_is (Some (things.Hash h)) hash is = ap (option_map (λ h. things.Hash h)) is
hash_is t hash is = let none : None ≡ Some hash = is in cc

pub source_is : (t : Option Thing) (source : ZcoSource) → as_source t ≡ Some source → t ≡ Some (things.Source source)
source_is (Some (things.Source s)) source is = ap (option_map (λ s. things.Source s)) is
source_is t source is = let none : None ≡ Some source = is in cc

pub object_is : (t : Option Thing) (object : ZcoObject) → as_object t ≡ Some object → t ≡ Some (things.Object object)
object_is (Some (things.Object z)) object is = ap (option_map (λ z. things.Object z)) is
object_is t object is = let none : None ≡ Some object = is in cc
