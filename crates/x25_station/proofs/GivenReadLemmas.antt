-- A packet that is read is read as it with what is given beside it too.
use Rattle.x25_station.proofs.Names.{◌≡◌, ℕ, ◌+◌, ◌*◌, ◌%◌, ◌<◌, ◌≤◌, List, [], ◌∷◌, ◌++◌, length, Bool, true, false, nat_le, not, inl, sym, ap, ap₂, subst}
use Rattle.x25_station.proofs.Names.{◌∙◌, arith, length-append, ◌/◌, and_parts, leb-true, All-append, list_all-append, list_all, bit, PlainGiven, may_give}
use Rattle.x25_station.proofs.Names.{write, written, WrittenIsInForm, WrittenIsRead, LayerSettings, LayerAnswer, layer_answers, answer_to, is_digit, packed}
use Rattle.x25_station.proofs.Names.{IsFacilityField, PlainPacket, call, accept, clear, IsInRange, longest_user, spelling_of, body_of, header_of, read_in}
use Rattle.x25_station.proofs.Names.{ReadsWhatIsSpelled, TakesWhatIsSpelled, TakesWhatIsWritten, PlainBeside, beside_in, layer_settings, named_by, StationEntry}
use Rattle.x25_station.proofs.Names.{bringing, entries_beside, layer_answer, entries_of_answer, confirmed_by, AreOctets, IsReadable}
use Rattle.std.{proofs.lemmas.List.Elements.{All-head, All-tail}, specs.Prelude.{◌&&◌, is_some}}
use Rattle.x25_packet.specs.{Classes.{are_facilities, none_own, own_in}, Spelling.{addresses}}
use Rattle.x25_station.proofs.{ClosingLemmas.{given_confirms_none}, ConfirmLemmas.{nothing_behind}}
use Rattle.x25_station.proofs.FieldLemmas.{IsOctet, bit_low, field_octets, field_short, length_packed, octets_more, packed_octets, user_short}
use Rattle.x25_station.proofs.GivenLemmas.{given_told, given_written}
use Rattle.x25_station.specs.laws.GivenLaw.{GivesOctets, GivenIsHeard, GivenIsRead, IsReadInAll, told}

-- with more user data of a CALL at most
wider : (most : ℕ) → most ≤ 128 → (v : PlainPacket) → IsInRange most v → IsInRange 128 v
wider most low (call h called calling field user) range = (let few = range.4 in (range.0, range.1, range.2, range.3, omega (arith, few, low)))
wider most low v range = range

-- ---- how much may be given

facilities_few : (g : PlainGiven) → may_give g ≡ true → length g.facilities ≤ 103
facilities_few g allowed =
    let all = and_parts (are_facilities 0 g.facilities) _ allowed in
    leb-true (length g.facilities) 103 (and_parts (nat_le (length g.facilities) 103) _ all.1).0

user_few : (g : PlainGiven) → may_give g ≡ true → length g.user ≤ 128
user_few g allowed =
    let all = and_parts (are_facilities 0 g.facilities) _ allowed in
    let rest = and_parts (nat_le (length g.facilities) 103) _ all.1 in
    let sizes = and_parts (not (is_some (own_in none_own 0 g.facilities).packet_size)) _ rest.1 in
    leb-true (length g.user) 128 (and_parts (not (is_some (own_in none_own 0 g.facilities).window_size)) _ sizes.1).1

-- ---- octets

behind : (xs ys : List ℕ) → AreOctets (xs ++ ys) → AreOctets ys
behind [] ys h = h
behind (x ∷ xs) ys h = behind xs ys (All-tail IsOctet x (xs ++ ys) h)

first_low : (d : Bool) (h : ℕ) → h ≤ 4095 → 128 * bit false + 64 * bit d + 16 + h / 256 < 256
first_low d h high = let b : bit d ≤ 1 = bit_low d in omega (arith, b, high)

-- the first three octets, and what follows them
headed_octets : (d : Bool) (h kind : ℕ) (rest : List ℕ) → h ≤ 4095 → kind < 256 → AreOctets rest
    → AreOctets ((128 * bit false + 64 * bit d + 16 + h / 256) ∷ h % 256 ∷ kind ∷ rest)
headed_octets d h kind rest high low all =
    octets_more (128 * bit false + 64 * bit d + 16 + h / 256) (h % 256 ∷ kind ∷ rest) (first_low d h high)
    (octets_more (h % 256) (kind ∷ rest) (let e : h % 256 < 256 = omega arith in e) (octets_more kind rest low all))

-- a facility field behind its length, and user data
fields_octets : (field user : List ℕ) → length field ≤ 109 → AreOctets field → AreOctets user → AreOctets (length field ∷ field ++ user)
fields_octets field user few of_field of_user = octets_more (length field) (field ++ user) (omega (arith, few)) (All-append IsOctet field user of_field of_user)

fields_short : (field user : List ℕ) → length field ≤ 109 → length user ≤ 128 → length (length field ∷ field ++ user) ≤ 238
fields_short field user few short = let e : length (field ++ user) ≡ length field + length user = length-append field user in omega (arith, e, few, short)

module _ (read : WrittenIsRead) (wide long_data : Bool) (g : PlainGiven) (allowed : may_give g ≡ true) (octets : GivesOctets g) where
  -- the station's own facilities, and those that are given
  both_few : (field : List ℕ) → IsFacilityField field → length (field ++ g.facilities) ≤ 109
  both_few field is =
      let e : length (field ++ g.facilities) ≡ length field + length g.facilities = length-append field g.facilities in
      let few = field_short field is in
      let more = facilities_few g allowed in
      omega (arith, e, few, more)

  both_octets : (field : List ℕ) → IsFacilityField field → AreOctets (field ++ g.facilities)
  both_octets field is = All-append IsOctet field g.facilities (field_octets field is) octets.0

  call_read : (h : ℕ) (called calling field user : List ℕ)
      → (let v = call h called calling field user in IsInRange (longest_user long_data) v → IsReadable wide long_data v → IsReadInAll long_data (written g v) v)
  call_read h called calling field user range r =
      let v = call h called calling field user in
      let most = longest_user long_data in
      let low : most ≤ 128 = user_short long_data in
      let few = range.4 in
      let digits = packed (called ++ calling) in
      let given = field ++ g.facilities in
      let both : list_all is_digit (called ++ calling) ≡ true =
      list_all-append is_digit called calling ∙ ap (λ (x : Bool). x && list_all is_digit calling) range.1.decimal ∙ range.2.decimal in
      let of_user : AreOctets user = behind (length field ∷ field) user
      (behind (addresses called calling) (length field ∷ field ++ user) (behind (header_of v) (body_of v) r.octets)) in
      let all : AreOctets (written g v) =
      headed_octets g.d h 11 ((16 * length calling + length called) ∷ digits ++ (length given ∷ given ++ user)) range.0.1 (omega arith)
      (octets_more (16 * length calling + length called) (digits ++ (length given ∷ given ++ user))
      (let a = range.1.short in let b = range.2.short in omega (arith, a, b))
      (All-append IsOctet digits (length given ∷ given ++ user) (packed_octets (called ++ calling) both)
      (fields_octets given user (both_few field range.3) (both_octets field range.3) of_user))) in
      record {
        octets = all;
        short = (
            let a : length digits ≡ (length (called ++ calling) + 1) / 2 = length_packed (called ++ calling) in
            let b : length (called ++ calling) ≡ length called + length calling = length-append called calling in
            let d : length (digits ++ (length given ∷ given ++ user)) ≡ length digits + length (length given ∷ given ++ user) =
            length-append digits (length given ∷ given ++ user) in
            let e : length (length given ∷ given ++ user) ≤ 238 = fields_short given user (both_few field range.3) (omega (arith, few, low)) in
            let one = range.1.short in
            let two = range.2.short in
            omega (arith, a, b, d, e, one, two));
        reads = read g most v low allowed (wider most low v range) (inl few) all;
      }

  accept_read : (h : ℕ) (field : List ℕ) → (let v = accept h field in IsInRange (longest_user long_data) v → IsReadInAll long_data (written g v) v)
  accept_read h field range =
      let v = accept h field in
      let most = longest_user long_data in
      let low : most ≤ 128 = user_short long_data in
      let given = field ++ g.facilities in
      let all : AreOctets (written g v) =
      headed_octets g.d h 15 (0 ∷ length given ∷ given ++ g.user) range.0.1 (omega arith)
      (octets_more 0 (length given ∷ given ++ g.user) (omega arith) (fields_octets given g.user (both_few field range.1) (both_octets field range.1) octets.1))
      in
      record {
        octets = all;
        short = (let e : length (length given ∷ given ++ g.user) ≤ 238 = fields_short given g.user (both_few field range.1) (user_few g allowed) in
            omega (arith, e));
        reads = read g most v low allowed range tt all;
      }

  clear_read : (h cause diagnostic : ℕ)
      → (let v = clear h cause diagnostic in IsInRange (longest_user long_data) v → IsReadable wide long_data v → IsReadInAll long_data (written g v) v)
  clear_read h cause diagnostic range r =
      let v = clear h cause diagnostic in
      let most = longest_user long_data in
      let low : most ≤ 128 = user_short long_data in
      let few : length g.facilities ≤ 109 = (let more = facilities_few g allowed in omega (arith, more)) in
      let body : AreOctets (cause ∷ diagnostic ∷ []) = behind (header_of v) (cause ∷ diagnostic ∷ []) r.octets in
      let all : AreOctets (written g v) =
      headed_octets false h 19 (cause ∷ diagnostic ∷ 0 ∷ length g.facilities ∷ g.facilities ++ g.user) range.1 (omega arith)
      (octets_more cause (diagnostic ∷ 0 ∷ length g.facilities ∷ g.facilities ++ g.user) (All-head IsOctet cause (diagnostic ∷ []) body)
      (octets_more diagnostic (0 ∷ length g.facilities ∷ g.facilities ++ g.user)
      (All-head IsOctet diagnostic [] (All-tail IsOctet cause (diagnostic ∷ []) body))
      (octets_more 0 (length g.facilities ∷ g.facilities ++ g.user) (omega arith) (fields_octets g.facilities g.user few octets.0 octets.1)))) in
      record {
        octets = all;
        short = (let e : length (length g.facilities ∷ g.facilities ++ g.user) ≤ 238 = fields_short g.facilities g.user few (user_few g allowed) in
            omega (arith, e));
        reads = read g most v low allowed range tt all;
      }

  -- all others are as they are
  same_read : (v : PlainPacket) → IsReadable wide long_data v → IsReadInAll long_data (spelling_of v) v
  same_read v r = record { octets = r.octets; short = r.short; reads = r.reads_in_all }

  by_kind : (v : PlainPacket) → IsInRange (longest_user long_data) v → IsReadable wide long_data v → IsReadInAll long_data (written g v) v
  by_kind (call h called calling field user) range r = call_read h called calling field user range r
  by_kind (accept h field) range r = accept_read h field range
  by_kind (clear h cause diagnostic) range r = clear_read h cause diagnostic range r
  by_kind v range r = same_read v r

pub given_read : ReadsWhatIsSpelled → TakesWhatIsSpelled → TakesWhatIsWritten → WrittenIsRead → GivenIsRead
given_read reads spelled alike read wide long_data g v allowed octets r =
    let range : IsInRange (longest_user long_data) v = r.in_range in
    let same = given_written reads spelled alike g v (wider (longest_user long_data) (user_short long_data) v range) r.octets in
    subst (λ (o : List ℕ). IsReadInAll long_data o v) (sym same) (by_kind read wide long_data g allowed octets v range r)

-- so the user of the other end is told the same of it, and then what was given
pub given_heard : ReadsWhatIsSpelled → TakesWhatIsSpelled → TakesWhatIsWritten → WrittenIsRead → WrittenIsInForm → GivenIsHeard
given_heard reads spelled alike read form c l g v wide allowed octets readable other =
    let lc : LayerSettings = layer_settings c in
    let most = longest_user c.long_data in
    let o = write g (spelling_of v) in
    let within = wider most (user_short c.long_data) v readable.in_range in
    let same : o ≡ written g v = given_written reads spelled alike g v within readable.octets in
    let r = given_read reads spelled alike read c.wide c.long_data g v allowed octets readable in
    let is : beside_in true o ≡ told g v = subst (λ (x : List ℕ). beside_in true x ≡ told g v) (sym same)
    (given_told reads alike read form g v allowed within (subst AreOctets same r.octets) (λ e. other (same ∙ e))) in
    let answer : layer_answer lc c.wide l o ≡ layer_answer lc c.wide l (spelling_of v) =
    ap (answer_to lc l o) (ap (λ (b : Bool). read_in b most o) wide ∙ r.reads) ∙ sym (ap (answer_to lc l (spelling_of v)) readable.reads) in
    let a : LayerAnswer = layer_answer lc c.wide l o in
    let heard : a ≡ layer_answers lc l v = ap (answer_to lc l o) (ap (λ (b : Bool). read_in b most o) wide ∙ r.reads) in
    let none : confirmed_by lc c.wide l a.next (named_by o) ≡ 0 =
    given_confirms_none g v (λ e. other (same ∙ e)) c.wide lc l a.next (named_by o) (ap (λ (n : LayerAnswer). n.next) heard) in
    ap (λ (es : List StationEntry). entries_of_answer a ++ es)
    (nothing_behind a.next (named_by o) (confirmed_by lc c.wide l a.next (named_by o)) (entries_beside (beside_in c.wide o) (bringing a.notices)) none)
    ∙ ap₂ (λ (a : LayerAnswer) (b : PlainBeside). entries_of_answer a ++ entries_beside b (bringing a.notices)) answer
    (ap (λ (b : Bool). beside_in b o) wide ∙ is)
