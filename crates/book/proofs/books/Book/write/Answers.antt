use Rattle.book.proofs.Filing.{loads_back}
use Rattle.book.proofs.books.Book.write.Goals as goal

pub returns-then-out-lt-FILE_ROOM-clause-back : goal.returns-then-out-lt-FILE_ROOM-clause-back
returns-then-out-lt-FILE_ROOM-clause-back c = loads_back c.args.self.now c.args.table

pub returns-clause-back : goal.returns-clause-back
returns-clause-back c = loads_back c.args.self.now c.args.table
