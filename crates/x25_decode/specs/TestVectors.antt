-- What `vectors` writes: a line for the check value of the FCS and for each stored vector, its name and `ok` or `bad`
-- (profile).
use Rattle.std.specs.Prelude.{ℕ, ◌==◌, ◌&&◌, Bool, false, List, [], ◌∷◌, ◌++◌, codes, if◌then◌else◌}
use Rattle.std.specs.List.{flat_map, list_all}
use Rattle.std.specs.Str.{bytes_eq}
use Rattle.x25_bits.specs.FrameCheck.{fcs_of}
use Rattle.x25_decode.specs.Decoding.{answer_to}
use Rattle.x25_decode.specs.declared.answer.Reading.{Reading}
use Rattle.x25_decode.specs.declared.test_vectors.Vector.{Vector}

-- a line for `decode`, and the line that answers it
pub record Stored : Type 0 where
  pub name : List ℕ
  pub line : List ℕ
  pub answer : List ℕ

unfoldable pub stored : List Stored
stored =
    record { name = codes "V2"; line = codes "> 013febdf"; answer = codes "> SABM cmd P=1\n" } ∷
    record { name = codes "V3"; line = codes "< 01738357"; answer = codes "< UA rsp F=1\n" } ∷
    record { name = codes "V4"; line = codes "> 033f5bec"; answer = codes "> fault 4 undefined ctl=3f\n" } ∷
    record { name = codes "V5"; line = codes "> 053f8bb8"; answer = codes "> fault 3 address\n" } ∷
    record {
      name = codes "V6";
      line = codes "> 01001000fb00007702";
      answer = codes "> I cmd P=0 S=0 R=0 | RESTART cause=0 diag=0\n";
    } ∷
    record {
      name = codes "V7";
      line = codes "< 03001000fb0700c478";
      answer = codes "< I cmd P=0 S=0 R=0 | RESTART cause=7 diag=0\n";
    } ∷
    record { name = codes "V8"; line = codes "< 01211426"; answer = codes "< RR rsp F=0 R=1\n" } ∷
    record { name = codes "V9"; line = codes "> 0321a415"; answer = codes "> RR rsp F=0 R=1\n" } ∷
    record { name = codes "V10"; line = codes "< 01095e8b"; answer = codes "< REJ rsp F=0 R=0\n" } ∷
    record { name = codes "V11"; line = codes "> 01119717"; answer = codes "> RR cmd P=1 R=0\n" } ∷
    record { name = codes "V12"; line = codes "< 01f199f0"; answer = codes "< RR rsp F=1 R=7\n" } ∷
    record { name = codes "V13"; line = codes "< 01872000080f31"; answer = codes "< FRMR rsp F=0 why=200008\n" } ∷
    record { name = codes "V14"; line = codes "> 0101"; answer = codes "> fault 1 short\n" } ∷
    record { name = codes "V15"; line = codes "> 013febde"; answer = codes "> fault 2 fcs\n" } ∷
    record {
      name = codes "V16";
      line = codes "> 01209d37";
      answer = codes "> I cmd P=0 S=0 R=1 | fault 20 diag=38\n";
    } ∷
    record {
      name = codes "V17";
      line = codes "> 012210010b431234567000417605";
      answer = codes "> I cmd P=0 S=1 R=1 | CALL ch=1 called=123 calling=4567 fac=- data=41\n";
    } ∷
    []

-- a vector of the program, as text
abbrev pub shown : Vector → Stored
shown v = record { name = v.name.now; line = v.line.now; answer = v.answer.now }

abbrev pub verdict : List ℕ → Bool → List ℕ
verdict name is_right = name ++ (if is_right then codes " ok\n" else codes " bad\n")

-- user data isn't long, and packets are read in the form that a station writes
abbrev pub as_written : Reading
as_written = record { long = false; wide = false }

-- the line is answered by the answer
abbrev pub is_right : Stored → Bool
is_right v = bytes_eq (answer_to as_written v.line) v.answer

-- the check value of the FCS, 0x906E
abbrev pub is_check_right : Bool
is_check_right = fcs_of (codes "123456789") == 36974

-- the line for a vector
abbrev pub verdict_of : Stored → List ℕ
verdict_of v = verdict v.name (is_right v)

abbrev pub verdicts : List ℕ
verdicts = verdict (codes "V1") is_check_right ++ flat_map verdict_of stored

abbrev pub are_right : Bool
are_right = is_check_right && list_all is_right stored
