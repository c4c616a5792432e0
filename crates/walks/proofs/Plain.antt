-- A plain type, with what a walk by hand asks of it, and its values.
--     Plain            a type whose values have one machine value each, which its relation tells, and own nothing that is not had for nothing
--     nat, int, real, nothing      unsigned and signed numbers, floats and `()`
--     struct, enum     a declared type whose parts are plain
--     Datum            a value of a plain type, which stands in the type's relation to its machine value
--     told, meant      what is known of a call's result v that stands in the relation to x: v is the machine value of x, and stands for x
-- Assumes `Logic`.
use mathlib.Core.Path.{◌≡◌, refl, ap, subst}
use mathlib.Core.List.{List, [], ◌∷◌}
use Prim.Native.Nat.{ℕ, ◌<◌, ◌^◌}
use lib.Dec.{T}
use lib.Ieee.{Format}
use seplogic.Ra.Ura.{Ura}
use mir.Syntax.{Ty, Width, w64, ty_int, ty_float, ty_unit}
use mir.Val.{Val, vunit, vint, vfloat, has_ty, WT, of_z}
use types.Logic.{Logic}
use borrow.Table.Copies.{parts_laws, variants_laws}
use denote.Copied.{Copied, uint_Copied, sint_Copied, float_Copied, Nothing-Copied}
use denote.RattleType.{RattleType, RowLaws}
use denote.Exit.{yes, unchanged}
use denote.Laws.{Is, Tells, Makes, Copy}
use denote.Memory.{lone}
use denote.Plain.{UInt, Nothing, uint_Tells, uint_Lawful, uint_Makes, uint_copy, Nothing-Tells, Nothing-Makes, Nothing-copy, uint_row_laws, unit-row_laws}
use denote.Signed.{SInt, sint_Tells, sint_Lawful, sint_Makes, sint_copy, sint_row_laws}
use denote.Floats.{FloatOf, float_Tells, float_Lawful, float_Makes, float_copy, float_row_laws}
use denote.Steps.{only}
use denote.Struct.Declared as S
use denote.Struct.Laws as SL
use denote.Struct.Struct as SS
use denote.Enum.Declared as E
use denote.Enum.Laws as EL
use denote.Enum.Enum as EE

pub record Plain : Type 3 where
  pub row : RattleType
  pub mir : Ty
  pub val : row.Denot → Val
  pub tells : Tells row (Is row) (λ x. val x ∷ [])
  pub typed : {M : Type 1} {𝓤 : Ura M} (𝓛 : Logic 𝓤) → (x : row.Denot) → Is row x (val x ∷ []) → T (has_ty mir (val x)) × WT (val x)
  pub makes : {M : Type 1} {𝓤 : Ura M} (𝓛 : Logic 𝓤) → Makes 𝓛 row (Is row)
  pub still : row.exit yes ≡ unchanged
  pub alone : row.mir ≡ mir ∷ []
  pub copies : {M : Type 1} {𝓤 : Ura M} (𝓛 : Logic 𝓤) → Copy 𝓛 row
  pub copied : {M : Type 1} {𝓤 : Ura M} (𝓛 : Logic 𝓤) → Copied 𝓛 row
  pub laws : RowLaws row

abbrev pub nat : Width → Plain
nat w = record {
  row = UInt w;
  mir = ty_int w;
  val = vint w;
  tells = uint_Tells w;
  typed = λ 𝓛 x is. ((uint_Lawful 𝓛 w).typed x _ is).0;
  makes = λ 𝓛. uint_Makes 𝓛 w;
  still = refl;
  alone = refl;
  copies = λ 𝓛. uint_copy 𝓛 w;
  copied = λ 𝓛. uint_Copied 𝓛 w;
  laws = uint_row_laws w;
}

abbrev pub int : Width → Plain
int w = record {
  row = SInt w;
  mir = ty_int w;
  val = λ z. vint w (of_z w z);
  tells = sint_Tells w;
  typed = λ 𝓛 x is. ((sint_Lawful 𝓛 w).typed x _ is).0;
  makes = λ 𝓛. sint_Makes 𝓛 w;
  still = refl;
  alone = refl;
  copies = λ 𝓛. sint_copy 𝓛 w;
  copied = λ 𝓛. sint_Copied 𝓛 w;
  laws = sint_row_laws w;
}

abbrev pub real : Format → Plain
real f = record {
  row = FloatOf f;
  mir = ty_float f;
  val = vfloat f;
  tells = float_Tells f;
  typed = λ 𝓛 x is. ((float_Lawful 𝓛 f).typed x _ is).0;
  makes = λ 𝓛. float_Makes 𝓛 f;
  still = refl;
  alone = refl;
  copies = λ 𝓛. float_copy 𝓛 f;
  copied = λ 𝓛. float_Copied 𝓛 f;
  laws = float_row_laws f;
}

abbrev pub nothing : Plain
nothing = record {
  row = Nothing;
  mir = ty_unit;
  val = λ _. vunit;
  tells = Nothing-Tells;
  typed = λ 𝓛 x is. (tt, tt);
  makes = λ 𝓛. Nothing-Makes 𝓛;
  still = refl;
  alone = refl;
  copies = λ 𝓛. Nothing-copy 𝓛;
  copied = λ 𝓛. Nothing-Copied 𝓛;
  laws = unit-row_laws;
}

abbrev pub struct : (D : S.Declared) (L : SL.Laws D) → SS.Plains (S.fields D) → SL.Copyables D.parts → Plain
struct D L pl cs = record {
  row = S.row D;
  mir = lone (S.row D).mir;
  val = SL.val D L;
  tells = SL.tells D L;
  typed = λ 𝓛 x is. ((SL.lawful D L 𝓛).typed x _ is).0;
  makes = λ 𝓛. SL.makes D pl 𝓛;
  still = SL.still D cs yes;
  alone = refl;
  copies = λ 𝓛. SL.copy D cs 𝓛;
  copied = λ 𝓛. SL.copied D cs 𝓛;
  laws = parts_laws D (SL.copy_row_laws D.parts cs);
}

abbrev pub enum : (D : E.Declared) (L : EL.Laws D) → EE.Few (E.shape D) → EE.Plainss (E.variants D) → EL.Copyabless D.parts → Plain
enum D L few pl cs = record {
  row = E.row D;
  mir = lone (E.row D).mir;
  val = EL.val D L;
  tells = EL.tells D L;
  typed = λ 𝓛 x is. ((EL.lawful D L 𝓛 few).typed x _ is).0;
  makes = λ 𝓛. EL.makes D pl 𝓛;
  still = EL.still D cs yes;
  alone = refl;
  copies = λ 𝓛. EL.copy D cs 𝓛;
  copied = λ 𝓛. EL.copied D cs 𝓛;
  laws = variants_laws D (EL.copy_row_lawss D.parts cs);
}

pub record Datum : Type 3 where
  pub of : Plain
  pub x : of.row.Denot
  pub is : Is of.row x (of.val x ∷ [])

abbrev pub datum : (P : Plain) (x : P.row.Denot) → Is P.row x (P.val x ∷ []) → Datum
datum P x is = record { of = P; x = x; is = is }

-- a usize
abbrev pub size : (n : ℕ) → n < 2 ^ 64 → Datum
size n fits = datum (nat w64) n (refl, fits)

module _ (P : Plain) (x : P.row.Denot) (v : Val) (is : Is P.row x (v ∷ [])) where
  pub told : v ≡ P.val x
  told = ap only (P.tells x (v ∷ []) is)

  pub meant : Is P.row x (P.val x ∷ [])
  meant = subst (λ (vs : List Val). Is P.row x vs) (P.tells x (v ∷ []) is) is
