use Rattle.pin_pool.proofs.Undone.{drop-undoes, give_back-undoes, move_back-undoes, relink-undoes, restore-undoes, unlink-undoes}
use Rattle.pin_pool.proofs.laws.rings_come_back.Goals as goal

pub returns : goal.returns
returns c = record {
  relink = relink-undoes;
  restore = restore-undoes;
  move_back = move_back-undoes;
  unlink = unlink-undoes;
  give_back = give_back-undoes;
  drop = drop-undoes;
}
