-- With its rates a checked net is sound and in range. Assumes nothing.
use Rattle.rules.specs.Net.{Net, Sound}
use Rattle.rules.specs.Rates.{Rated}
use Rattle.rules.specs.Ranges.{InRange, Checked, RatesSound}

module _ (N : Net) (C : Checked N) (R : Rated N) where
  pub sound : Sound N
  sound = record {
    rated = R.complete;
    lasting = λ i h. (C.lasting i h).0;
    recurring = R.least;
    share = C.share.0;
    unit = C.unit.0;
    linked = λ k l o. (
        let K = C.linked k l o in
        record { from_station = K.from_station; to_station = K.to_station; gives = K.gives; takes = K.takes; room = λ c e. (K.room c e).1; balanced = R.balanced k l o });
  }

  pub in_range : InRange N
  in_range = record {
    some = C.some;
    few = C.few;
    numbers = C.numbers;
    lasting = λ i h. (C.lasting i h).1;
    recurring = R.most;
    share = C.share.1;
    unit = C.unit.1;
    linked = λ k l o. (let K = C.linked k l o in record { arrive = K.arrive; leave = K.leave; stock = K.stock; room = λ c e. (K.room c e).0 });
  }

pub rates_sound_lem : RatesSound
rates_sound_lem N C R = (sound N C R, in_range N C R)
