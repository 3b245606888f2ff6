mod WrittenLists
