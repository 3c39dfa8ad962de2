-- How the logic stores JSON: as the list of its parts, each before those that it holds (this project).
use Rattle.std.specs.Prelude.{◌≡◌, ℕ, ℤ, pos, List, [], ◌∷◌, Bool, false, cond, ◌==◌, refl}
use Rattle.std.specs.Float.{Float, nan}
use Rattle.std.specs.Coded.{Coded, code_by, coded×, coded_ℕ, coded_ℤ, coded_bool, coded_list}
use Rattle.std.proofs.Common.{ap, ◌∙◌}
use base.Stored.{coded_float}
use Rattle.serde_json.specs.Data.{Num, unsigned, negative, float, Data, null, boolean, number, string, array, object, Items, no_items, item, Members, no_members, member}

-- ---- numbers

abbrev Numbered : Type 0
Numbered = ℕ × (ℕ × (ℤ × Float))

abbrev numbered : Num → Numbered
numbered (unsigned n) = (0, (n, (pos 0, nan)))
numbered (negative z) = (1, (0, (z, nan)))
numbered (float x) = (2, (0, (pos 0, x)))

abbrev number_in : Numbered → Num
number_in p = cond (p.0 == 0) (unsigned p.1.0) (cond (p.0 == 1) (negative p.1.1.0) (float p.1.1.1))

pub number_in-numbered : (n : Num) → number_in (numbered n) ≡ n
number_in-numbered (unsigned n) = refl
number_in-numbered (negative z) = refl
number_in-numbered (float x) = refl

abbrev number_code : Coded Num
number_code = code_by Numbered (coded× coded_ℕ (coded× coded_ℕ (coded× coded_ℤ coded_float))) numbered number_in number_in-numbered

-- ---- parts

-- one part: a value that holds no other, or what holds those behind it
pub data Part : Type 0 where
  nothing : Part
  truth : Bool → Part
  quantity : Num → Part
  text : List ℕ → Part
  list : Part
  record_of : Part
  last_item : Part
  next_item : Part
  last_member : Part
  next_member : List ℕ → Part

abbrev Parted : Type 0
Parted = ℕ × (Bool × (List ℕ × Num))

abbrev parted : Part → Parted
parted nothing = (0, (false, ([], unsigned 0)))
parted (truth b) = (1, (b, ([], unsigned 0)))
parted (quantity n) = (2, (false, ([], n)))
parted (text s) = (3, (false, (s, unsigned 0)))
parted list = (4, (false, ([], unsigned 0)))
parted record_of = (5, (false, ([], unsigned 0)))
parted last_item = (6, (false, ([], unsigned 0)))
parted next_item = (7, (false, ([], unsigned 0)))
parted last_member = (8, (false, ([], unsigned 0)))
parted (next_member k) = (9, (false, (k, unsigned 0)))

abbrev part_in : Parted → Part
part_in p =
    cond (p.0 == 0) nothing (cond (p.0 == 1) (truth p.1.0) (cond (p.0 == 2) (quantity p.1.1.1) (cond (p.0 == 3) (text p.1.1.0)
    (cond (p.0 == 4) list (cond (p.0 == 5) record_of (cond (p.0 == 6) last_item (cond (p.0 == 7) next_item
    (cond (p.0 == 8) last_member (next_member p.1.1.0)))))))))

pub part_in-parted : (p : Part) → part_in (parted p) ≡ p
part_in-parted nothing = refl
part_in-parted (truth b) = refl
part_in-parted (quantity n) = refl
part_in-parted (text s) = refl
part_in-parted list = refl
part_in-parted record_of = refl
part_in-parted last_item = refl
part_in-parted next_item = refl
part_in-parted last_member = refl
part_in-parted (next_member k) = refl

abbrev part_code : Coded Part
part_code = code_by Parted (coded× coded_ℕ (coded× coded_bool (coded× (coded_list coded_ℕ) number_code))) parted part_in part_in-parted

-- ---- values

-- the parts of a value, and then these
abbrev mutual
  parts : Data → List Part → List Part
  parts null rest = nothing ∷ rest
  parts (boolean b) rest = truth b ∷ rest
  parts (number n) rest = quantity n ∷ rest
  parts (string s) rest = text s ∷ rest
  parts (array ds) rest = list ∷ items_parts ds rest
  parts (object ms) rest = record_of ∷ members_parts ms rest

  items_parts : Items → List Part → List Part
  items_parts no_items rest = last_item ∷ rest
  items_parts (item d ds) rest = next_item ∷ parts d (items_parts ds rest)

  members_parts : Members → List Part → List Part
  members_parts no_members rest = last_member ∷ rest
  members_parts (member k d ms) rest = next_member k ∷ parts d (members_parts ms rest)

-- what parts are put together to
pub data Piece : Type 0 where
  whole : Data → Piece
  items : Items → Piece
  members : Members → Piece

abbrev as_list : List Piece → List Piece
as_list (items ds ∷ rest) = whole (array ds) ∷ rest
as_list rest = []

abbrev as_record : List Piece → List Piece
as_record (members ms ∷ rest) = whole (object ms) ∷ rest
as_record rest = []

abbrev as_item : Data → List Piece → List Piece
as_item d (items ds ∷ rest) = items (item d ds) ∷ rest
as_item d rest = []

abbrev as_member : List ℕ → Data → List Piece → List Piece
as_member k d (members ms ∷ rest) = members (member k d ms) ∷ rest
as_member k d rest = []

abbrev with_item : List Piece → List Piece
with_item (whole d ∷ rest) = as_item d rest
with_item rest = []

abbrev with_member : List ℕ → List Piece → List Piece
with_member k (whole d ∷ rest) = as_member k d rest
with_member k rest = []

-- a part before what those behind it were put together to
abbrev put_before : Part → List Piece → List Piece
put_before nothing rest = whole null ∷ rest
put_before (truth b) rest = whole (boolean b) ∷ rest
put_before (quantity n) rest = whole (number n) ∷ rest
put_before (text s) rest = whole (string s) ∷ rest
put_before list rest = as_list rest
put_before record_of rest = as_record rest
put_before last_item rest = items no_items ∷ rest
put_before next_item rest = with_item rest
put_before last_member rest = members no_members ∷ rest
put_before (next_member k) rest = with_member k rest

abbrev together : List Part → List Piece
together [] = []
together (part ∷ rest) = put_before part (together rest)

-- the value that was put together
abbrev value_in : List Piece → Data
value_in (whole d ∷ rest) = d
value_in rest = null

mutual
  pub together-parts : (d : Data) (rest : List Part) → together (parts d rest) ≡ whole d ∷ together rest
  together-parts null rest = refl
  together-parts (boolean b) rest = refl
  together-parts (number n) rest = refl
  together-parts (string s) rest = refl
  together-parts (array ds) rest = ap as_list (together-items_parts ds rest)
  together-parts (object ms) rest = ap as_record (together-members_parts ms rest)

  pub together-items_parts : (ds : Items) (rest : List Part) → together (items_parts ds rest) ≡ items ds ∷ together rest
  together-items_parts no_items rest = refl
  together-items_parts (item d ds) rest =
      ap with_item (together-parts d (items_parts ds rest)) ∙ ap (as_item d) (together-items_parts ds rest)

  pub together-members_parts : (ms : Members) (rest : List Part) → together (members_parts ms rest) ≡ members ms ∷ together rest
  together-members_parts no_members rest = refl
  together-members_parts (member k d ms) rest =
      ap (with_member k) (together-parts d (members_parts ms rest)) ∙ ap (as_member k d) (together-members_parts ms rest)

-- a value is stored as its parts
abbrev pub data_code : Coded Data
data_code = code_by (List Part) (coded_list part_code) (λ d. parts d []) (λ ps. value_in (together ps)) (λ d. ap value_in (together-parts d []))
