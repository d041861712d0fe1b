-- Letters and places, computed.
use mathlib.Core.Path.{refl}
use Rattle.layout.specs.Fields.{head_of, list_of, bytes_of}
use Rattle.layout.specs.Letters.{ascii, Letters}
use Rattle.layout.specs.Places.{FieldsInPlace}

pub letters_spelt : Letters
unfolding ascii
letters_spelt =
    record {
      task = refl;
      semaphore = refl;
      bolt = refl;
      interrupt = refl;
      clock = refl;
      activate = refl;
      terminate = refl;
      suspend = refl;
      prevent = refl;
      continue = refl;
      end = refl;
      resume = refl;
      request = refl;
      release = refl;
      try = refl;
      reserve = refl;
      free = refl;
      enter = refl;
      leave = refl;
      trigger = refl;
      enable = refl;
      disable = refl;
      tick = refl;
      sleep = refl;
    }

pub fields_in_place : FieldsInPlace
unfolding ascii head_of list_of bytes_of
fields_in_place = record { laid_out = refl; taken_apart = refl }
