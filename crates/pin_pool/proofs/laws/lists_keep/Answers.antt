use Rattle.pin_pool.proofs.PoolLemmas.{has-append}
use Rattle.pin_pool.proofs.RingLemmas.{apart-without, has-without, without-absent, without-push}
use Rattle.pin_pool.proofs.ListLaws.{apart-put_after, has-put_after, put-back, stands-before, without-put_after}
use Rattle.pin_pool.proofs.laws.lists_keep.Goals as goal

pub returns : goal.returns
returns c = record {
  has_append = has-append;
  has_without = has-without;
  has_put_after = has-put_after;
  apart_without = apart-without;
  apart_put_after = apart-put_after;
  without_absent = without-absent;
  without_last = without-push;
  without_put_after = without-put_after;
  stands_before = stands-before;
  put_back = put-back;
}
