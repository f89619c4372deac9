-- The arms of a union: a number chooses how the rest is spelled (RFC 4506 section 4.15).
use Rattle.std.specs.Prelude.{◌≡◌, ℕ, ◌<◌, ◌^◌, Bool, true, false, ◌==◌, ◌||◌, if◌then◌else◌, List, [], ◌∷◌, ◌++◌, Result, Ok, Err, refl}
use Rattle.wire_xdr.specs.Cursor.{Cursor, ◌>>=◌}
use Rattle.wire_xdr.specs.Words.{word_bytes}
use Rattle.wire_xdr.specs.Form.{Form}
use Rattle.wire_xdr.specs.WordReads.{word_read}

-- one arm: its number, how what it holds is spelled, and the value that is made of that
pub record Arm (V : Type 0) : Type 1 where
  pub Body : Type 0
  pub number : ℕ
  pub form : Form Body
  pub make : Body → V

-- Which arm a value is of, and what it holds; whether that arm is one of the list or the default; its
-- number, and how what it holds is spelled.
pub record Case (V : Type 0) : Type 1 where
  pub arm : Arm V
  pub body : arm.Body
  pub listed : Bool
  pub number : ℕ
  pub spell : List ℕ
  pub Fits : Type 0
  pub spell_is : spell ≡ arm.form.spell body
  pub fits : Fits → arm.form.Fits body

abbrev pub case_of : {V : Type 0} → Bool → (a : Arm V) → a.Body → Case V
case_of listed a body = record { arm = a; body = body; listed = listed; number = a.number; spell = a.form.spell body; Fits = a.form.Fits body; spell_is = refl; fits = λ h. h }

-- a value of an arm of the list
abbrev pub holds : {V B : Type 0} → ℕ → Form B → (B → V) → B → Case V
holds number form make body = case_of true (record { Body = _; number = number; form = form; make = make }) body

-- a value of the default arm
abbrev pub defaults : {V B : Type 0} → ℕ → Form B → (B → V) → B → Case V
defaults number form make body = case_of false (record { Body = _; number = number; form = form; make = make }) body

-- an arm of the list: a value that is made by it is of it
pub record ArmOf {V : Type 0} (case : V → Case V) : Type 1 where
  pub arm : Arm V
  pub made : (body : arm.Body) → case (arm.make body) ≡ case_of true arm body

abbrev pub arm : {V B : Type 0} {case : V → Case V} (number : ℕ) (form : Form B) (make : B → V) → ((body : B) → case (make body) ≡ holds number form make body) → ArmOf case
arm number form make made = record { arm = record { Body = _; number = number; form = form; make = make }; made = made }

abbrev pub arm_read : {V : Type 0} → Arm V → Cursor → Result (V × Cursor) ℕ
arm_read a c = do
  x ← a.form.read c
  Ok (a.make x.0, x.1)

-- the arm of the list with the number, and else what is said there
abbrev pub arms_read : {V : Type 0} {case : V → Case V} → List (ArmOf case) → (Cursor → Result (V × Cursor) ℕ) → ℕ → Cursor → Result (V × Cursor) ℕ
arms_read [] otherwise n c = otherwise c
arms_read (a ∷ arms) otherwise n c = if n == a.arm.number then arm_read a.arm c else arms_read arms otherwise n c

abbrev pub is_listed : {V : Type 0} {case : V → Case V} → List (ArmOf case) → ℕ → Bool
is_listed [] n = false
is_listed (a ∷ arms) n = (n == a.arm.number) || is_listed arms n

-- the number of a value's arm, and the spelling of what it holds
abbrev pub number_of : {V : Type 0} → (V → Case V) → V → ℕ
number_of case v = (case v).number

abbrev pub body_spell : {V : Type 0} → (V → Case V) → V → List ℕ
body_spell case v = (case v).spell

abbrev pub body_Fits : {V : Type 0} → (V → Case V) → V → Type 0
body_Fits case v = (case v).Fits

-- a refusal at this place
abbrev pub refused_at : {V : Type 0} → ℕ → Cursor → Result (V × Cursor) ℕ
refused_at at c = Err at

-- Reading by the number of a value finds its arm, and the value is made of what it holds.
pub record IsListed {V : Type 0} {case : V → Case V} (arms : List (ArmOf case)) (v : V) : Type 0 where
  pub reads : (otherwise : Cursor → Result (V × Cursor) ℕ) (c : Cursor) → arms_read arms otherwise (number_of case v) c ≡ arm_read (case v).arm c
  pub whole : (case v).arm.make (case v).body ≡ v

-- The same where there is a default arm: a value of that one has a number that isn't listed.
abbrev pub Picks : {V : Type 0} {case : V → Case V} → Bool → List (ArmOf case) → (ℕ → Arm V) → V → Type 0
Picks {V} {case} true arms other v = (otherwise : Cursor → Result (V × Cursor) ℕ) (c : Cursor) → arms_read arms otherwise (number_of case v) c ≡ arm_read (case v).arm c
Picks {V} {case} false arms other v = (otherwise : Cursor → Result (V × Cursor) ℕ) (c : Cursor) → arm_read (other (number_of case v)) c ≡ arm_read (case v).arm c

pub record IsPicked {V : Type 0} {case : V → Case V} (arms : List (ArmOf case)) (other : ℕ → Arm V) (v : V) : Type 0 where
  pub reads : Picks (case v).listed arms other v
  pub whole : (case v).arm.make (case v).body ≡ v

-- the default arm at each number
abbrev pub other_arm : {V B : Type 0} → (ℕ → Form B) → (ℕ → B → V) → ℕ → Arm V
other_arm form make n = record { Body = _; number = n; form = form n; make = make n }

abbrev pub chosen_read : {V : Type 0} {case : V → Case V} → List (ArmOf case) → ℕ → Cursor → Result (V × Cursor) ℕ
chosen_read arms n c = arms_read arms (refused_at c.at) n c

abbrev pub chosen_Fits : {V : Type 0} → (V → Case V) → ℕ → V → Type 0
chosen_Fits case n v = (number_of case v ≡ n) × body_Fits case v

-- a tag, and what stands in the arm with that number; an unknown tag is refused at the tag
abbrev pub union_read : {V : Type 0} {case : V → Case V} → List (ArmOf case) → Cursor → Result (V × Cursor) ℕ
union_read arms c = do
  tag ← word_read c
  arms_read arms (refused_at c.at) tag.0 tag.1

abbrev pub union_spell : {V : Type 0} → (V → Case V) → V → List ℕ
union_spell case v = word_bytes (number_of case v) ++ body_spell case v

abbrev pub union_Fits : {V : Type 0} → (V → Case V) → V → Type 0
union_Fits case v = (number_of case v < 2 ^ 32) × body_Fits case v

-- a tag, and what stands in the arm with that number or in the default arm
abbrev pub union_or_read : {V : Type 0} {case : V → Case V} → List (ArmOf case) → (ℕ → Arm V) → Cursor → Result (V × Cursor) ℕ
union_or_read arms other c = do
  tag ← word_read c
  arms_read arms (arm_read (other tag.0)) tag.0 tag.1

abbrev pub union_or_Fits : {V : Type 0} {case : V → Case V} → List (ArmOf case) → V → Type 0
union_or_Fits {V} {case} arms v = (number_of case v < 2 ^ 32) × (is_listed arms (number_of case v) ≡ (case v).listed) × body_Fits case v
