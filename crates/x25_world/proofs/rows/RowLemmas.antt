-- The worked rows, by computing.
use Rattle.x25_world.proofs.Names.{refl, arith, fcs_of, number_of, add, divisor, divided, is_sealed, frame_of, pumped}
use Rattle.x25_bits.specs.FrameCheck.{low_bits}
use Rattle.x25_packet.specs.{Classes.{are_facilities, own_in}, Digits.{packed, halves_of}, Facilities.{facilities_of}, Grammar.{read_of}}
use Rattle.x25_world.specs.rows.WorldRows.{MoreArrives, GivenArrives, ConfirmedArrives, ConnectGoesAgain, SecondMeetsFirst, SecondMeet}

pub more_arrives : MoreArrives
unfolding pumped frame_of packed halves_of own_in facilities_of read_of is_sealed fcs_of number_of low_bits add divisor divided
more_arrives = (
  record {
    drained = record { out = refl; back = refl };
    near = record { up = refl; free = refl; tries = λ _. omega arith };
    far = record { up = refl; free = refl; tries = λ _. omega arith };
  },
  (tt, (tt, (tt, (tt, (tt, (tt, (tt, (tt, (tt, (tt, (tt, tt))))))))))),
  (
    (
      tt,
      (
        (refl, (refl, refl)),
        (
          (refl, (refl, refl)),
          (
            (refl, (refl, refl)),
            (
              (refl, (refl, refl)),
              (
                (refl, (refl, refl)),
                (
                  (refl, (refl, refl)),
                  ((refl, (refl, refl)), ((refl, (refl, refl)), ((refl, (refl, refl)), ((refl, (refl, refl)), (refl, refl))))),
                ),
              ),
            ),
          ),
        ),
      ),
    ),
    (record { out = refl; back = refl }, refl),
  ),
)

pub given_arrives : GivenArrives
unfolding are_facilities own_in pumped frame_of packed halves_of facilities_of read_of is_sealed fcs_of number_of low_bits add divisor divided
given_arrives = (refl, refl, refl, refl)

pub confirmed_arrives : ConfirmedArrives
unfolding are_facilities own_in pumped frame_of packed halves_of facilities_of read_of is_sealed fcs_of number_of low_bits add divisor divided
confirmed_arrives = (refl, refl, refl)

pub connect_goes_again : ConnectGoesAgain
unfolding pumped frame_of read_of is_sealed fcs_of number_of low_bits add divisor divided
connect_goes_again = refl

pub second_meets_first : SecondMeetsFirst
second_meets_first = (refl, refl, refl, refl, refl)

pub second_meet : SecondMeet
unfolding pumped frame_of read_of is_sealed fcs_of number_of low_bits add divisor divided
second_meet = (refl, refl, refl, refl, refl)
